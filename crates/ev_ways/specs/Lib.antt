pub mod Drawing
pub mod Lists
pub mod Ways
pub mod Search
pub mod Clearing
pub mod Best
pub mod Walked
pub mod Cycle
