pub mod Below
pub mod starts
pub mod events
