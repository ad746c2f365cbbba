pub mod Multiple
pub mod Cycle
