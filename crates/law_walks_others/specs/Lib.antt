pub mod Below
pub mod pointers
pub mod still
pub mod arrivals
