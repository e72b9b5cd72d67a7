pub mod Storing
pub mod Marking
pub mod Searching
pub mod Directing
