pub mod StartLeft
pub mod Printing
pub mod AsProgram
