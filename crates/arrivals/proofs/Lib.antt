-- Lemmas of the sources.
pub mod Rising
pub mod Capturing
pub mod Merging
pub mod Turns
pub mod Belonging
pub mod Distinct
pub mod Instants
pub mod Leading
pub mod Taking
pub mod Beginning
