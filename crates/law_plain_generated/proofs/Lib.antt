pub mod Unplaced
pub mod Lists
pub mod Printable
pub mod Lengths
pub mod Sources
