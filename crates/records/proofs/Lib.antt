mod Shared
pub mod Reading
pub mod Holding
pub mod Round
pub mod Held
pub mod Refusals
