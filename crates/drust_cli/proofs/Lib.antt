pub mod Asks
pub mod Cleaned
pub mod Digits
pub mod Parsers
pub mod Walks
