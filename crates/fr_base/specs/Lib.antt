pub mod Rooms
pub mod Code
pub mod Kinds
pub mod Lists
pub mod Names
pub mod Numbers
