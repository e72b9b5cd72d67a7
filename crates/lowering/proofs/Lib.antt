pub mod Bits
pub mod Ahead
pub mod Same
pub mod Tests
pub mod RecordStored
pub mod Elsewhere
