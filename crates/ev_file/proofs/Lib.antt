pub mod Refused
pub mod KindReader
pub mod FileReader
pub mod SpelledFiles
