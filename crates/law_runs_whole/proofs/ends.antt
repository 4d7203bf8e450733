pub mod Weighing
pub mod Servers
pub mod Going
pub mod Bare
pub mod Owners
pub mod Left
