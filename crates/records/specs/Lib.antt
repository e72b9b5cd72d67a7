pub mod Record
pub mod Shared
pub mod Step
