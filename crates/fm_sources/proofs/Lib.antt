pub mod Checks
pub mod Given
pub mod Texts
