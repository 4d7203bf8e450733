pub mod Kinds
pub mod Arrivals
pub mod Lent
pub mod Standing
pub mod Issued
