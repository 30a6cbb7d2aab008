pub mod OneFile
mod NoFault
