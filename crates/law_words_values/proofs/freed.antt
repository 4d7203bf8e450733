pub mod Going
pub mod Lists
pub mod Unled
pub mod Drops
