-- The two orders.
pub mod Orders
