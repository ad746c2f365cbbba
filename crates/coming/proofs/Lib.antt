-- Lemmas of the packets of a queue.
pub mod Dues
pub mod Kept
pub mod Steps
pub mod Rising
pub mod Arrivals
pub mod Lefts
