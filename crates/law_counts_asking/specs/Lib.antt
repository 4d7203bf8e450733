pub mod Below
pub mod Standing
