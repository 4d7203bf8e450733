pub mod Contents
pub mod Marks
pub mod Locks
pub mod Places
pub mod OnTop
pub mod NextWords
