pub mod StateReader
pub mod Lists
pub mod Facts
pub mod Spelled
