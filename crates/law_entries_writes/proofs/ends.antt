pub mod Agreeing
pub mod Ending
pub mod Closing
pub mod Marks
pub mod Finishing
pub mod Cleaning
pub mod Ways
pub mod Goes
