pub mod Colours
pub mod View
