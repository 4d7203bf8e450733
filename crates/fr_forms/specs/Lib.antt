pub mod Depths
pub mod FormTerms
pub mod Forming
pub mod Resolved
