pub mod Held
pub mod HandArrivals
pub mod Regained
pub mod Arrivals
pub mod Each
