pub mod Refusals
pub mod Checkable
