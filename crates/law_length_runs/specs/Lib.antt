pub mod Below
pub mod worth
pub mod asked
pub mod short
pub mod driven
