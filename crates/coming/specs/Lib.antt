-- The packets of a queue.
pub mod Coming
pub mod Packets
pub mod Left
pub mod Rising
