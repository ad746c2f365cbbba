-- What the contracts of the sources say.
pub mod Sources
pub mod Captures
pub mod Faults
pub mod Merges
pub mod Sorts
pub mod Upcoming
pub mod Cursors
pub mod Calendars
