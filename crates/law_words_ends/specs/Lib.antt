pub mod Below
pub mod variables
pub mod stars
pub mod arrivals
