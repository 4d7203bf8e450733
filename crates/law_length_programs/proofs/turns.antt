pub mod Entries
pub mod Few
pub mod Rounds
