pub mod Sent
pub mod Prepares
pub mod Steps
pub mod Deliveries
pub mod Events
pub mod Counting
