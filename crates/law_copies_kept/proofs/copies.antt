pub mod Comes
pub mod Clean
pub mod Served
pub mod KeptCopies
