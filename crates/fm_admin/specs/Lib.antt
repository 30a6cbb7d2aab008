pub mod Telling
pub mod Marking
pub mod Limits
pub mod Rotation
pub mod Repairing
pub mod Dumping
pub mod Rows
pub mod Explaining
