pub mod Printed
pub mod Remainders
pub mod Turns
