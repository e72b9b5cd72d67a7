pub mod Entry
pub mod Taken
