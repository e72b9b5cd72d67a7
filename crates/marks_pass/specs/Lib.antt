pub mod Pass
pub mod Table
pub mod Standing
