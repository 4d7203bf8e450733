pub mod Below
pub mod drops
pub mod writes
