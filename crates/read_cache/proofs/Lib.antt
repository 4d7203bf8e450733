mod AgeLemmas
mod SlotLemmas
mod OrderLemmas
