pub mod Depths
pub mod InnerDepths
