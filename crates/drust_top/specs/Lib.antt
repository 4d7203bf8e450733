pub mod Headline
pub mod Inputs
pub mod OneAnswer
