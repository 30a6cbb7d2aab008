pub mod SavedReader
pub mod ConfReader
pub mod CheckpointReader
