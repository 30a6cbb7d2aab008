pub mod Compiling
pub mod InputListing
