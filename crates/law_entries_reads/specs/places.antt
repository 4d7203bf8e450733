pub mod Walks
pub mod Reads
