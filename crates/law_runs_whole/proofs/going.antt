pub mod Outboxes
pub mod Going
