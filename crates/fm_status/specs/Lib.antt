pub mod Rows
pub mod Wanted
pub mod Names
pub mod Lines
