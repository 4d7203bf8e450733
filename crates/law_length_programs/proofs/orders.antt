pub mod Births
pub mod Total
pub mod Orders
pub mod Blocks
pub mod Trees
