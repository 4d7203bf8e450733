pub mod Undone
pub mod Borrows
