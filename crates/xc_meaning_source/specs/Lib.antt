pub mod Source
pub mod Cells
pub mod Work
pub mod Premises
pub mod Laws
