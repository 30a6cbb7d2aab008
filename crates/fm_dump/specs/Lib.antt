pub mod Command
pub mod Errors
pub mod Faults
pub mod Kept
pub mod Options
