-- Lemmas that more than one function's proof uses, each building on those above it.
mod Flags
mod Joining
pub mod Windows
pub mod Refusals
pub mod Law
