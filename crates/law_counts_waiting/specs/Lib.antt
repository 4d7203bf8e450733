pub mod Below
pub mod waits
pub mod contents
