pub mod DiagnoserMeaning
pub mod Fresh
