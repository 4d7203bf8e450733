pub mod Following
pub mod Marks
pub mod Replaying
pub mod FewSteps
pub mod Stepping
pub mod Unfollowed
