pub mod Runs
pub mod OneHeap
pub mod LeftByItsCode
pub mod Laws
pub mod Rows
pub mod Refusals
