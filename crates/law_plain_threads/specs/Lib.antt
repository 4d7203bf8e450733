pub mod mutexes
pub mod threads
pub mod steps
