pub mod Homes
pub mod Once
pub mod Depths
pub mod Hands
pub mod Stood
pub mod Chains
pub mod Fits
pub mod Outside
