-- What holds of every list that a search draws.
pub mod Words
pub mod Laws
pub mod Sheets
