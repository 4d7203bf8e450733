pub mod Positions
pub mod ActRows
pub mod Keeps
pub mod CodeRows
pub mod Example
