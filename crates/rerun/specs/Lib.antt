pub mod Added
pub mod Adds
pub mod Ends
