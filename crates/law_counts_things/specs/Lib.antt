pub mod Below
pub mod things
