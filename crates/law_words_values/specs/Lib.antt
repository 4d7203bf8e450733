pub mod Below
pub mod carried
pub mod made
pub mod freed
pub mod references
