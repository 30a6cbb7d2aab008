pub mod Greatest
pub mod Listed
pub mod Shrinking
pub mod Searches
pub mod Telling
pub mod Meaning
pub mod Blaming
