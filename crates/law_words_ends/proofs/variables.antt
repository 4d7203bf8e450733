pub mod EndTypes
pub mod EndSteps
pub mod EndPlaces
pub mod EndHands
pub mod EndEvents
pub mod Tops
pub mod Recoloured
pub mod DirtyEnds
