-- A reader believes Marks, Claims and Leads; Examples computes the marks of short listings.
pub mod Marks
pub mod Claims
pub mod Leads
pub mod Examples
