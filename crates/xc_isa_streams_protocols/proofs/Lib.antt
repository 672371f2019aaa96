pub mod Grows
pub mod Tallies
pub mod Kept
pub mod Silent
pub mod Alone
pub mod Holding
