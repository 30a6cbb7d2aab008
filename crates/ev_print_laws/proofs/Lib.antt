pub mod Real
pub mod Printed
pub mod Shown
pub mod PrintedFile
pub mod Reread
pub mod Lexed
pub mod Spelled
mod ClassWords
