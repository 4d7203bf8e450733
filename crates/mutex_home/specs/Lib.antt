pub mod Mutexes
pub mod Computes
pub mod Stores
pub mod View
pub mod Queues
