pub mod Parts
pub mod Inits
pub mod Words
pub mod Cells
pub mod InnerCells
