pub mod Rulings
pub mod Operators
pub mod Verdicts
pub mod Pairs
