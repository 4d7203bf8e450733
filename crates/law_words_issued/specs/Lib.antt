pub mod Below
pub mod stands
pub mod old
pub mod stays
pub mod ever
pub mod apart
