pub mod Divisors
pub mod Multiples
pub mod Limits
pub mod Repeats
