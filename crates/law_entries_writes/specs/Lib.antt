pub mod Below
pub mod walks
pub mod asks
pub mod stores
pub mod ends
