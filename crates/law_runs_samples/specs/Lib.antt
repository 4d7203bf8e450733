pub mod Rows
pub mod Follow
pub mod Examples
