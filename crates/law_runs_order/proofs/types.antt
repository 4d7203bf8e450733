pub mod Types
pub mod Coherent
