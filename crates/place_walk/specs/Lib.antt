pub mod Below
pub mod Hops
