pub mod Fit
pub mod Sets
pub mod Engine
pub mod Links
