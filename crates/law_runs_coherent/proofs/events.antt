pub mod Ends
pub mod Once
pub mod Each
pub mod Levels
pub mod Owning
pub mod CopyKinds
pub mod Copies
pub mod Every
