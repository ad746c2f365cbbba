-- Lemmas of the port.
pub mod Sheets
pub mod Lining
pub mod Intake
pub mod Outgo
pub mod Arrived
pub mod Ampleness
pub mod Deciding
pub mod Passing
pub mod Running
pub mod Blocking
