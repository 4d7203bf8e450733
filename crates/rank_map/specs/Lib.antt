pub mod Places
pub mod Blocks
pub mod Nodes
pub mod Queues
pub mod Marks
