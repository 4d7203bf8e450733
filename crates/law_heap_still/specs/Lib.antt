pub mod Below
pub mod events
pub mod undone
