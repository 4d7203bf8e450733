pub mod Below
pub mod reads
pub mod ends
pub mod stays
pub mod moves
pub mod prepared
