pub mod Copies
pub mod Grown
mod Bounds
pub mod Turns
pub mod Finished
mod Dating
mod Answers
pub mod Within
