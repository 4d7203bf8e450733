pub mod Below
pub mod things
pub mod types
pub mod messages
