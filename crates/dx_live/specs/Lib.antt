pub mod Region
pub mod Cuts
pub mod Live
