pub mod Counts
pub mod Numbers
pub mod Whole
pub mod Tally
pub mod Same
