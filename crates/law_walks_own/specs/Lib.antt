pub mod Below
pub mod steps
pub mod passed
