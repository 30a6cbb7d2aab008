pub mod CaseOrder
pub mod RowMap
pub mod RowPlaces
pub mod RowLaws
pub mod WantedRows
pub mod WantedPaths
