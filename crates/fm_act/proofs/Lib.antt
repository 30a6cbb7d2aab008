pub mod Growing
pub mod Listing
pub mod HeldWanted
pub mod Walked
pub mod InMemory
