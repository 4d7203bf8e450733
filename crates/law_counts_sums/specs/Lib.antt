pub mod Below
pub mod Sums
pub mod Kinds
pub mod Laws
