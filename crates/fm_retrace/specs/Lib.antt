pub mod Logged
pub mod Retracing
