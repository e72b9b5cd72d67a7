mod Playing
mod Lowering
pub mod Refusals
