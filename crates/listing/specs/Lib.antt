pub mod Printed
pub mod Paper
