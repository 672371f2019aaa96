pub mod Lowered
pub mod InnerLowered
pub mod Accessed
pub mod Kept
