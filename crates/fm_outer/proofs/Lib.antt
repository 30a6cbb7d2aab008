mod DiskCalls
mod Images
pub mod Moments
pub mod Numbers
pub mod Ranges
mod Tapes
