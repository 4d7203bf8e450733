pub mod Below
pub mod Sums
mod Starts
mod StaleRounds
mod StaleEnough
pub mod Names
pub mod Shown
pub mod Sees
pub mod SeesThreads
pub mod Unbroken
pub mod Ranks
mod Following
pub mod Asked
pub mod Bags
mod Named
pub mod Words
pub mod Passing
pub mod Past
pub mod Followed
pub mod Dirty
pub mod Turn
