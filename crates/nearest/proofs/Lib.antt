-- Not farther; distances in f64 and in words; the loop over the points; the law of the answer.
mod Ties
mod Distances
pub mod Points
pub mod Law
