pub mod Unbuilt
pub mod Fits
pub mod Globals
pub mod Code
pub mod Faithful
