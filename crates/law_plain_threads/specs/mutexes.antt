pub mod MutexActs
pub mod Example
