-- What the port's contracts say.
pub mod Counting
pub mod Lanes
pub mod Station
pub mod Life
pub mod Quiet
pub mod Meaning
