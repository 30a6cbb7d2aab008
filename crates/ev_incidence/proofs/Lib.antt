pub mod Ascending
pub mod Pieces
pub mod Occurrences
pub mod Searching
pub mod SortedTail
pub mod Ranked
