pub mod acts
pub mod slots
pub mod drops
