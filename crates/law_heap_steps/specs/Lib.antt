pub mod Below
pub mod turns
pub mod mutexes
pub mod threads
