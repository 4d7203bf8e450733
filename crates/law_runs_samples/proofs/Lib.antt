pub mod Follow
pub mod Examples
