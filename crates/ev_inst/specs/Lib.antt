pub mod Outcomes
pub mod Instances
pub mod Gathering
pub mod Guarding
pub mod Asked
pub mod GuardsOf
