pub mod Ending
pub mod Choice
pub mod Balance
pub mod Rounds
pub mod Rows
pub mod Laws
