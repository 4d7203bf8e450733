pub mod Drops
pub mod DropActs
pub mod Example
