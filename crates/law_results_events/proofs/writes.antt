mod Follows
pub mod Memory
pub mod Route
pub mod Routes
pub mod StepRoutes
pub mod Writes
mod WriteSteps
pub mod Holders
pub mod Ends
mod EndSteps
pub mod Anyhow
pub mod Written
pub mod Passed
pub mod Moved
