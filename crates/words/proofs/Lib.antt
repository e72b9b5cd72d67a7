pub mod Lengths
pub mod Copying
pub mod RoundTrip
pub mod Stored
pub mod Padding
