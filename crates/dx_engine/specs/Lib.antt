pub mod Standing
pub mod Rows
pub mod Guarding
pub mod Diagnosers
