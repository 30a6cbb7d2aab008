pub mod Membership
pub mod Walks
pub mod Searches
pub mod Clears
pub mod Choices
pub mod Cycles
