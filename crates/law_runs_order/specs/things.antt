pub mod SameThings
pub mod Laws
