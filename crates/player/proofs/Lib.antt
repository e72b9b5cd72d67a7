pub mod Encoding
mod Steps
mod Walks
pub mod Looks
mod Rules
pub mod Answering
