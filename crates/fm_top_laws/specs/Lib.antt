pub mod Limits
pub mod Suiting
pub mod Valid
