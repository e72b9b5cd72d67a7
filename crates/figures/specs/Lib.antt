pub mod Shelf
pub mod Told
pub mod Walk
pub mod Taken
