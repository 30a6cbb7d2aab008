pub mod Moments
pub mod Decides
