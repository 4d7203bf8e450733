pub mod Unpassed
pub mod Fewer
pub mod Gone
pub mod Starts
