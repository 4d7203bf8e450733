mod Bounds
mod Moves
