pub mod Filling
pub mod Format
pub mod InForce
pub mod Pair
pub mod Standing
