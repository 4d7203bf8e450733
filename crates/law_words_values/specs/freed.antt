pub mod Freed
pub mod Drops
