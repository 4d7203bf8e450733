pub mod Usages
pub mod Rules
pub mod Nodes
pub mod Programs
pub mod Capturing
pub mod Heaps
