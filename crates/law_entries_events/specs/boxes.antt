pub mod Boxes
pub mod Borrows
