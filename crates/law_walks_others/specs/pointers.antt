pub mod Pointers
pub mod Steady
pub mod Deliveries
