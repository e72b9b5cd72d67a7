pub mod Values
pub mod Encoded
pub mod Positions
