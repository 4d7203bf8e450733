pub mod Carried
pub mod Steps
pub mod Leaving
pub mod Made
