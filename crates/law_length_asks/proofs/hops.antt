pub mod Beside
pub mod Writes
