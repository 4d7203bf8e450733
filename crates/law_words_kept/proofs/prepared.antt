pub mod Rising
pub mod Along
pub mod Hands
pub mod Stars
pub mod Untaken
pub mod Asking
pub mod Copying
pub mod Dupping
