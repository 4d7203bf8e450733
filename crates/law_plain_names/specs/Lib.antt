pub mod Renamed
pub mod Explored
