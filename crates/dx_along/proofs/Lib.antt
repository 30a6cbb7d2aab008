pub mod Along
pub mod Books
pub mod Graphs
