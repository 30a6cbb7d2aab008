pub mod NewStore
pub mod Stores
