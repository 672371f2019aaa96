pub mod Merged
pub mod Outcomes
pub mod Products
pub mod Spread
pub mod Totals
pub mod Bounded
