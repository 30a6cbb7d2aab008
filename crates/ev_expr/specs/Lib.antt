pub mod Operands
pub mod Conditions
