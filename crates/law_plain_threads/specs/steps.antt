pub mod Machines
pub mod Steps
pub mod TypedTerms
