pub mod Kinds
pub mod Wired
pub mod Lawful
pub mod Cutting
pub mod Rules
