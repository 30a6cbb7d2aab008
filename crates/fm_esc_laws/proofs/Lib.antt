mod OneText
pub mod Spelled
mod Listed
