pub mod Telling
pub mod Right
pub mod Once
