pub mod Below
pub mod heap
pub mod fits
pub mod threads
pub mod things
