pub mod Outboxes
pub mod Rooms
pub mod Servers
pub mod Steps
