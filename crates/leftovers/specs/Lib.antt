-- Demand 3. A reader believes Leftovers; Kept says the kept words positively, and Examples has the sheets at which it is looked at closely.
pub mod Leftovers
pub mod Kept
pub mod Examples
