pub mod Exact
pub mod Linked
pub mod Unions
pub mod Answers
