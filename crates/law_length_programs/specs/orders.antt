pub mod Orders
pub mod Sources
