pub mod Entered
pub mod Demand
pub mod Examples
pub mod Complexified
pub mod Drawn
pub mod DrawnExamples
pub mod Originated
