pub mod Below
pub mod copies
pub mod references
pub mod objects
pub mod hidden
