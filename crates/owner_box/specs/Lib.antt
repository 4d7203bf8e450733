pub mod Below
pub mod Issued
pub mod Partition
pub mod Runs
pub mod States
pub mod View
