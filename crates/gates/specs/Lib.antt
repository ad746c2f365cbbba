-- What the contracts of gate lists say.
pub mod Entries
pub mod Open
pub mod OpenLaws
pub mod Text
pub mod Writes
