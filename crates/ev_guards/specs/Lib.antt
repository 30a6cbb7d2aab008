pub mod Guards
pub mod Watched
