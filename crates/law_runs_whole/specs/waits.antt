pub mod Waits
pub mod Locks
pub mod Stands
