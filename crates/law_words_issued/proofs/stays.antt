pub mod Places
pub mod Rising
pub mod Walk
pub mod Copies
pub mod Still
pub mod Coming
pub mod Landing
pub mod Boxes
