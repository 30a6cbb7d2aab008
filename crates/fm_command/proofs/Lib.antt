pub mod Namespaces
pub mod Repairs
