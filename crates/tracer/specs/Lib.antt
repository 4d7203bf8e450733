pub mod TraceText
pub mod ReportText
pub mod Counting
