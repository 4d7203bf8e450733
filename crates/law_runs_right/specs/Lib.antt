pub mod Below
pub mod colours
pub mod order
pub mod right
