-- Lemmas of the laws.
pub mod Lists
pub mod Steps
pub mod Next
pub mod Walk
pub mod Room
pub mod Gate
pub mod Names
pub mod Admit
pub mod Turns
pub mod Law
pub mod Lawful
pub mod Trials
pub mod Once
pub mod Refusals
pub mod Cycles
pub mod Sheeted
