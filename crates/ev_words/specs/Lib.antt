pub mod Operands
pub mod Categories
pub mod Attributes
pub mod Iterators
pub mod Words
