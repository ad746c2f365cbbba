-- What the check's contracts say.
pub mod Faults
pub mod Named
pub mod Serving
pub mod Fit
pub mod Service
pub mod Queued
pub mod Lateness
pub mod Verdict
