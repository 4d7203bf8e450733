pub mod Bare
pub mod Twins
pub mod Leading
pub mod Viewing
pub mod Undone
