pub mod Reworded
pub mod Unmoved
pub mod OneMore
pub mod Soles
pub mod WordsAfter
pub mod PutBack
pub mod Example
