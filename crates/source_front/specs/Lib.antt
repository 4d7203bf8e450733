pub mod Below
pub mod Typed
pub mod Refusals
