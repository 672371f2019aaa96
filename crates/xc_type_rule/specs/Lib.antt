pub mod Least
pub mod Making
pub mod Cells
pub mod Members
pub mod Nulls
pub mod Values
pub mod Tests
