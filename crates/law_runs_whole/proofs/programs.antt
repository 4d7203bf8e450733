pub mod Messages
pub mod Programs
