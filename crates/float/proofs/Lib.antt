-- Lemmas that more than one function's proof uses, each building on those above it; the last two show the laws of specs/Laws.antt.
pub mod Nan
pub mod Order
pub mod Marks
mod Closest
mod RoundBits
mod Signed
mod RoundWord
mod Sticky
mod Fields
mod SquareRoot
pub mod Heron
pub mod ByMends
mod ToIntegral
pub mod WholeLaw
mod RoundWide
mod Sums
mod FusedSum
mod Alignment
mod FusedWords
pub mod Right
pub mod OneRoot
