mod BitLemmas
mod ChunkLemmas
mod SlotLemmas
