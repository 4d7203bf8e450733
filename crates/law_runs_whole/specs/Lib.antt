pub mod Below
pub mod runs
pub mod ends
pub mod going
pub mod waits
pub mod programs
