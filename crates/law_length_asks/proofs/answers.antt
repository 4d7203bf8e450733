pub mod Follows
pub mod Puts
pub mod Copies
pub mod Stand
pub mod Unstarted
pub mod Comes
pub mod Fills
pub mod Keeps
