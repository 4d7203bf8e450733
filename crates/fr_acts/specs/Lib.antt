pub mod SlotOrder
pub mod Acting
pub mod Behind
pub mod MutexActs
