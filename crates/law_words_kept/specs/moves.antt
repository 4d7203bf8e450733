pub mod Relaid
pub mod Ended
pub mod Example
