-- What the contracts of the search say.
pub mod Serving
pub mod Windows
pub mod Drawn
pub mod Faults
pub mod Search
pub mod Queues
pub mod Schedules
pub mod Trials
pub mod Memory
pub mod Packets
