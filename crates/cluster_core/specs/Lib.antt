pub mod Views
pub mod Rows
pub mod Rooms
pub mod Quiet
pub mod Handing
pub mod Enabled
pub mod Applying
pub mod Merging
