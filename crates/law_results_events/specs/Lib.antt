pub mod Below
pub mod writes
pub mod enabled
