pub mod Credit
pub mod Spending
pub mod Driving
