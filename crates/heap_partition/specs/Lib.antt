pub mod Bits
pub mod Cells
pub mod Chunks
pub mod Plain
pub mod Same
pub mod View
