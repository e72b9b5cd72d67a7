pub mod Counts
pub mod Most
pub mod Start
