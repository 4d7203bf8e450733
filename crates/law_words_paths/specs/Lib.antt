pub mod Below
pub mod paths
pub mod words
