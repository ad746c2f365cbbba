-- Lemmas of the search.
pub mod Entries
pub mod Firsts
pub mod Inserts
pub mod Nexts
pub mod Rooms
pub mod Admits
pub mod Walking
pub mod Outcomes
