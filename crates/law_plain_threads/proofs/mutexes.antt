pub mod Found
pub mod Dups
pub mod LockTypes
pub mod Locks
pub mod Unlocks
pub mod Makes
pub mod Example
