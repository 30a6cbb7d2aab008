pub mod HeldPaths
pub mod Changes
pub mod Reconciled
pub mod MemActuator
pub mod ToldLaws
