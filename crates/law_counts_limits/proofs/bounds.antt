mod Stars
mod Few
mod Raised
mod Short
mod Bounded
pub mod Turns
mod Passed
mod Hops
