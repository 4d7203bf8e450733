pub mod Canonical
pub mod Written
