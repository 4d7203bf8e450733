pub mod Terms
pub mod Limits
