pub mod Building
pub mod CutLists
pub mod KindBelow
