pub mod Regained
pub mod Events
