pub mod Fits
pub mod Reach
mod Shapes
