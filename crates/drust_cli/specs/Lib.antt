pub mod Asked
pub mod Numbers
pub mod Parser
pub mod Reading
pub mod Words
