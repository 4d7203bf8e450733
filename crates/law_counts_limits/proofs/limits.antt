mod Sent
mod Steps
mod Deliveries
pub mod Events
mod Lengths
pub mod Numbers
pub mod Counts
