pub mod Tables
mod Stores
mod Runs
pub mod Placing
mod Puts
pub mod Parts
pub mod Passing
pub mod Heads
pub mod IfRead
pub mod ByKind
pub mod Decoding
pub mod Numbering
pub mod Written
