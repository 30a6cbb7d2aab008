pub mod StateBytes
pub mod StateReading
pub mod Fitting
pub mod Configured
pub mod LawfulState
