pub mod Agreed
pub mod Asked
pub mod Cleaning
pub mod Following
pub mod EndKinds
pub mod WriteKinds
pub mod EachAsks
