pub mod Below
pub mod Borrows
