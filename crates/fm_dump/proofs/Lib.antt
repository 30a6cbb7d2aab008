pub mod Commands
pub mod Entries
pub mod KindClasses
pub mod Values
