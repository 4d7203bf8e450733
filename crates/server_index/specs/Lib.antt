pub mod Lists
pub mod Tables
pub mod Rows
pub mod Indexes
pub mod Sums
pub mod Ranks
pub mod MarkSets
pub mod Lines
