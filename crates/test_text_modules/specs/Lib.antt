pub mod Alike
pub mod Ones
