pub mod Order
pub mod Tables
pub mod Candidates
pub mod Search
