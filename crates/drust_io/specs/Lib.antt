pub mod Flow
pub mod Memory
pub mod Counted
