pub mod Below
pub mod Stored
