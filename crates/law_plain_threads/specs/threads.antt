pub mod ThreadActs
pub mod Example
