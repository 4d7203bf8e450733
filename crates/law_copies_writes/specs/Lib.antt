pub mod Below
pub mod writes
pub mod ends
pub mod arrivals
