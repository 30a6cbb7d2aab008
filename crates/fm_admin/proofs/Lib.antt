pub mod Counts
pub mod Tellings
pub mod Rotations
pub mod Rows
pub mod Repairs
pub mod RepairBooks
pub mod Dumps
pub mod Explanations
