pub mod Read
pub mod Reading
pub mod Toks
pub mod Gives
pub mod Fault
pub mod Placed
