pub mod ToldTexts
