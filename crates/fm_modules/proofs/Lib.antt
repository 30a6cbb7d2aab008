pub mod FirstModules
mod Gates
mod Guarding
mod KeptRows
mod StoreModules
