pub mod Pages
pub mod Printed
pub mod Uncut
pub mod Paper
pub mod Call
pub mod Standing
pub mod Values
