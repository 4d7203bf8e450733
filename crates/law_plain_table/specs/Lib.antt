pub mod Below
pub mod Layout
pub mod Tables
pub mod Examples
pub mod CodeOf
pub mod Bare
pub mod ProgramCodes
