pub mod Entries
pub mod Words
pub mod WordBytes
pub mod Reading
pub mod WordReading
pub mod CaseText
