pub mod Faulty
pub mod Config
pub mod Summary
