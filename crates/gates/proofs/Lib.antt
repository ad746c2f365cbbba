-- Lemmas of gate lists.
pub mod Bits
mod Counts
mod Distinct
mod Spelling
pub mod Stays
pub mod Texts
mod Writing
