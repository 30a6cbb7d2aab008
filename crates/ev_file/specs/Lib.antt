pub mod Files
pub mod FileReading
