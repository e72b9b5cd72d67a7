pub mod Counting
pub mod Heading
pub mod Limit
pub mod Ranges
pub mod Reading
pub mod Setting
