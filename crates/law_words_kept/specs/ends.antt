pub mod Ending
pub mod Dropped
pub mod Example
pub mod Lying
pub mod Objects
