pub mod Conversions
pub mod Rules
pub mod Sources
pub mod Texts
