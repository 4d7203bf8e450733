pub mod Kept
pub mod Settled
pub mod PlainSteps
pub mod Asks
pub mod Borrows
