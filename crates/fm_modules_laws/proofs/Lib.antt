pub mod CopiedGuards
pub mod OneRow
pub mod OneBook
pub mod Formed
pub mod FirstModules
pub mod Exact
