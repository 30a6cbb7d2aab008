pub mod Story
pub mod Greatest
pub mod Tests
