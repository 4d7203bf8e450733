pub mod Writes
pub mod Every
