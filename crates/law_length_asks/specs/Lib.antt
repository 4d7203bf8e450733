pub mod Below
pub mod ahead
pub mod hops
pub mod left
pub mod answers
