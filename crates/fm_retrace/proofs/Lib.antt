pub mod Said
pub mod Next
pub mod Come
pub mod Handed
