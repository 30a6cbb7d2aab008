pub mod Explaining
pub mod Laws
pub mod Search
pub mod Stories
pub mod Cases
pub mod CaseLaws
pub mod Examples
