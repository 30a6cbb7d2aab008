pub mod Parts
pub mod Restoring
pub mod Loading
pub mod Saving
