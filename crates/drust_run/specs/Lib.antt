pub mod Desks
pub mod Drives
pub mod Moves
pub mod Runs
pub mod Turns
