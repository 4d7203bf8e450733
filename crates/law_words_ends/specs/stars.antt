pub mod Returned
pub mod Each
