pub mod Numbers
pub mod Resting
pub mod Steps
pub mod Deliveries
pub mod Runs
pub mod Coherently
pub mod Programs
