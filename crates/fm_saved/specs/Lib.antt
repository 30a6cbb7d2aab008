pub mod Checkpoints
pub mod Confs
pub mod Saved
