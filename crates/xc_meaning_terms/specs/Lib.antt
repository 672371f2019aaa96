pub mod Terms
pub mod Pointers
pub mod Ranges
