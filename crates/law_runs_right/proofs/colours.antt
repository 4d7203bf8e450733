pub mod Coloured
