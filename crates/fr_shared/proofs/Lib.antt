pub mod PlaceLemmas
pub mod ObjectParts
pub mod HeapParts
pub mod MutexParts
pub mod PairParts
pub mod ActsLemmas
