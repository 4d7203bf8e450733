pub mod Boxes
pub mod Apart
