pub mod Below
pub mod writes
pub mod arrivals
pub mod awaited
