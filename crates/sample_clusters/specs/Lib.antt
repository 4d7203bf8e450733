pub mod Clusters
pub mod Busy
pub mod ChosenPrograms
