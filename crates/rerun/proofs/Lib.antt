pub mod Positions
mod Roots
mod Divides
mod Moves
