pub mod Beginning
pub mod Knowing
