pub mod Text
pub mod Paper
pub mod Line
pub mod Names
pub mod Sized
pub mod Puts
