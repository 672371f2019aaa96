pub mod Addresses
pub mod Stable
pub mod InnerStable
