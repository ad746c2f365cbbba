-- Lemmas of the table.
pub mod Places
pub mod Moves
