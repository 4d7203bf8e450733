pub mod Below
pub mod deliveries
pub mod still
pub mod variables
