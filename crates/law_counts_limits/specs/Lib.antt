pub mod Below
pub mod limits
pub mod sendings
