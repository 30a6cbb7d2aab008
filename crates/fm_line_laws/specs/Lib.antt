pub mod Cases
pub mod Names
pub mod Printing
