pub mod Nearest
pub mod Answer
pub mod Laws
pub mod Facts
pub mod Apart
