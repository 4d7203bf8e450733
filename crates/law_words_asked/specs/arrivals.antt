pub mod Arrivals
pub mod Awaited
