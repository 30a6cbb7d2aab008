pub mod Concluding
pub mod DrainedSummary
