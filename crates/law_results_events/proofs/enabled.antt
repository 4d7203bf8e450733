pub mod Captures
pub mod NewNames
pub mod Spawns
pub mod Views
pub mod Branches
pub mod Pairs
pub mod Pars
pub mod Each
