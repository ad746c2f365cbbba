pub mod Keyed
pub mod Total
pub mod Rows
pub mod Turns
