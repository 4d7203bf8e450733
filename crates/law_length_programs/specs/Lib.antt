pub mod Below
pub mod sizes
pub mod orders
pub mod turns
