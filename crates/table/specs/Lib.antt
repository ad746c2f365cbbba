-- What the table's contracts say.
pub mod Order
pub mod Calls
pub mod Refused
