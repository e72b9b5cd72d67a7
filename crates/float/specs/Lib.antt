-- The definitions of the crate. A reader begins with Word, which names Root, Fused and Integral, and then looks at Laws, and at Mends, the steps of Root;
-- Unpacked, Biased and Near are only what inner functions promise one another. Assumes nothing.
pub mod Word
pub mod Root
pub mod Fused
pub mod Integral
pub mod Laws
pub mod Unpacked
pub mod Biased
pub mod Near
pub mod Mends
