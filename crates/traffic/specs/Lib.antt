pub mod Wire
pub mod Pattern
pub mod Packets
pub mod Orders
pub mod Sorts
pub mod Behind
