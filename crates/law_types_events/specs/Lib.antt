pub mod Below
pub mod heap
pub mod sorts
pub mod holders
pub mod outside
