pub mod Sets
pub mod Wiring
pub mod Table
pub mod Reached
pub mod Ranking
