pub mod Lines
pub mod SheetText
pub mod Assembled
pub mod Facts
pub mod RoundTrip
pub mod Reading
pub mod Making
