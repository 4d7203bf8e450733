pub mod Ends
pub mod Types
pub mod Owning
pub mod Copies
pub mod Coherence
