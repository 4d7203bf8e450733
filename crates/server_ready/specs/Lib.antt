pub mod Prepareds
pub mod Stars
