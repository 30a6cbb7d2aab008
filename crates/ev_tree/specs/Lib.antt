pub mod Condition
pub mod Pattern
pub mod Rule
pub mod Tok
pub mod Language
pub mod Grammar
pub mod Text
pub mod Printing
