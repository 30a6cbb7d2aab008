pub mod Payloads
pub mod Classes
pub mod ReportIndex
pub mod Rulebooks
