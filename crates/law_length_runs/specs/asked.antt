pub mod Resting
pub mod Asking
pub mod Starting
pub mod Code
pub mod Short
