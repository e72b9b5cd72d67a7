pub mod Arrays
pub mod Rows
pub mod Records
pub mod Directing
pub mod Passing
