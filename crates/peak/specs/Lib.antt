pub mod Peak
pub mod Answer
pub mod Laws
pub mod Facts
pub mod Blocks
