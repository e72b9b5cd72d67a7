pub mod Numbers
pub mod Call
pub mod Standing
