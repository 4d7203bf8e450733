pub mod Inboxes
pub mod InOrder
