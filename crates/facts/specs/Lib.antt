pub mod Fact
pub mod Table
