pub mod SlotActs
pub mod Example
