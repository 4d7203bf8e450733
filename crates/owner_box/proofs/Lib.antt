pub mod Counts
pub mod ExactStates
pub mod Issued
pub mod Runs
pub mod States
