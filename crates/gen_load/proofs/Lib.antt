pub mod Counted
pub mod Handed
pub mod Shared
pub mod Steps
pub mod Texts
