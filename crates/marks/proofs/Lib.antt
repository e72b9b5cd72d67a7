-- Stores that agree (Stores), what passing records only adds or takes away (Growing), one play beside another (Playing), the claims
-- (Theorem), the ways (Leading), records that set no mark (Quiet), and a row of working records at once (Masks).
pub mod Stores
pub mod Growing
pub mod Playing
pub mod Theorem
pub mod Leading
pub mod Quiet
pub mod Masks
