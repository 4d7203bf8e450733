pub mod Same
pub mod Lists
pub mod Events
pub mod Eight
pub mod Stopped
pub mod Compare
pub mod Asks
