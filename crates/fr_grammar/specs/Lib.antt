pub mod Grammar
pub mod Source
pub mod Reading
pub mod Growth
pub mod Table
pub mod Refusals
