pub mod Ages
pub mod Cache
pub mod Computes
pub mod Hash
pub mod Slots
pub mod View
