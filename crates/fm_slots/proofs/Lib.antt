pub mod Gates
pub mod Forces
pub mod Heads
pub mod Filled
pub mod Picks
