pub mod Grounds
pub mod Turning
pub mod Tracking
pub mod Settling
pub mod Joining
pub mod Finding
pub mod Reloading
pub mod Standing
