-- How a port sends, and what it promises.
pub mod Sheet
pub mod Rules
pub mod Port
pub mod InTime
pub mod Verdict
pub mod Laws
pub mod Cycles
pub mod Calls
pub mod Jumps
pub mod Runs
pub mod Promise
pub mod Examples
