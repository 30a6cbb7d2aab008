pub mod RepairAsked
pub mod Words
