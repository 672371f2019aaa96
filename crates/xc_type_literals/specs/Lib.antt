pub mod Constants
pub mod InnerConstants
pub mod Texts
