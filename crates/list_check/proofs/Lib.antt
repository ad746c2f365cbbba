-- Lemmas of the check.
mod Naming
pub mod Serving
mod Fitting
pub mod Progress
mod Starting
mod Gathering
mod Looking
mod Judging
mod Gating
