pub mod Parts
pub mod Replaying
pub mod Sameness
