mod Rising
mod Once
pub mod OneGraph
