pub mod Booleans
pub mod Numbering
pub mod Readers
pub mod Combined
pub mod ReadLoops
pub mod Digits
pub mod Numerals
