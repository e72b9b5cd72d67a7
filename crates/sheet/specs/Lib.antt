pub mod Setup
pub mod Instruction
