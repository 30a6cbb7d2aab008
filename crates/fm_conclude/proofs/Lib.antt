pub mod Counts
pub mod Conclusions
pub mod OpenCases
