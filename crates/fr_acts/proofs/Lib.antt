pub mod SlotLemmas
pub mod ActLemmas
pub mod MutexLemmas
pub mod GoLemmas
pub mod ReleaseLemmas
