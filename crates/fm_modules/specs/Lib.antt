pub mod KeptTexts
pub mod Modules
pub mod OpenStore
pub mod Opening
