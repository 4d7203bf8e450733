pub mod Report
pub mod Replay
pub mod Runs
pub mod Answers
