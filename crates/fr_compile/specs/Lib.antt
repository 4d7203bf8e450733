pub mod Filling
pub mod Emitting
