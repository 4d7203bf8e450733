pub mod Drops
