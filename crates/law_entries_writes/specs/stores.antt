pub mod Variables
pub mod Through
