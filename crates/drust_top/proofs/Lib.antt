pub mod Ranges
pub mod Replies
pub mod OneAnswer
pub mod FromCause
pub mod InTime
