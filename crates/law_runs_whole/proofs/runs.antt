pub mod Counting
pub mod Unlabelled
pub mod Following
pub mod Colouring
