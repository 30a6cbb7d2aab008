pub mod Firsts
pub mod Cutting
pub mod Digits
pub mod Scanning
pub mod PartScans
pub mod Same
pub mod Alike
