pub mod Committeds
