pub mod Lists
pub mod Arrived
pub mod Awaited
