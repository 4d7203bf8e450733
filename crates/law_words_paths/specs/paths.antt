pub mod Above
pub mod HeapStore
pub mod Pointing
pub mod Example
