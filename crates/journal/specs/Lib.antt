pub mod OrderText
pub mod OrderReading
pub mod OrderFaults
pub mod Journals
pub mod WrittenOrder
pub mod View
