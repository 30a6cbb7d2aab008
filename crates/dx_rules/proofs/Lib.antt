pub mod Asking
pub mod Alike
mod Declaring
mod Indexing
mod Naming
