pub mod Lists
pub mod Parts
pub mod Steps
pub mod Deliveries
pub mod Events
pub mod Runs
pub mod Driven
