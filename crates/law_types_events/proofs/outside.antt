pub mod Walk
pub mod Names
pub mod Agreeing
pub mod Steps
pub mod Inside
pub mod Gifts
pub mod Outside
