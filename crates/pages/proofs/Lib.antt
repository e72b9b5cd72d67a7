pub mod Trimming
pub mod Aligned
pub mod Standing
pub mod Sizes
pub mod Fitting
pub mod Laying
pub mod Calls
