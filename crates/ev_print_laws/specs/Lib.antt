pub mod Spells
pub mod Classes
