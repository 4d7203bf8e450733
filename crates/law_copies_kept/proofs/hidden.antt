pub mod Under
pub mod Settled
pub mod Handed
pub mod Reworded
pub mod EndMarks
