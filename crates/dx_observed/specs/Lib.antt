pub mod Reported
pub mod ByReports
pub mod ObservedAlong
pub mod ObservedBook
pub mod SmallReports
