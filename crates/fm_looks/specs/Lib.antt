pub mod Bases
pub mod Entries
pub mod FaultLog
pub mod Looks
pub mod Opening
