pub mod Books
pub mod LogReads
pub mod Logged
pub mod SpelledOnce
