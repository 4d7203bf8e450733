pub mod Writes
pub mod Each
