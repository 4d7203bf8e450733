mod Codes
mod Numbers
mod Alone
mod Start
mod Boxed
mod Tables
mod Owning
pub mod Branches
mod Paired
mod Locking
pub mod Whole
pub mod Below
