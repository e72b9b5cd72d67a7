mod Adding
mod Digits
pub mod Whole
pub mod Short
pub mod Tables
pub mod Putting
