pub mod Locks
pub mod Undone
