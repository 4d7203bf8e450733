pub mod Marks
pub mod Marked
pub mod Starting
pub mod Due
pub mod Shapes
pub mod Driving
