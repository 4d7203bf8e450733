pub mod Onward
pub mod Later
pub mod Passing
pub mod Hops
pub mod Walks
pub mod Ways
pub mod Asking
