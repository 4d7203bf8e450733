pub mod Sending
pub mod Counting
