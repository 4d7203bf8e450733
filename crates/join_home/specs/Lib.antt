pub mod Tasks
pub mod Computes
pub mod Notes
pub mod View
