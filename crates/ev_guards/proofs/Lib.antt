pub mod GuardedLinks
pub mod Watching
pub mod GuardsAlike
