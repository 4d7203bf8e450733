pub mod Below
pub mod boxes
pub mod objects
pub mod events
