pub mod Named
pub mod Same
pub mod Mixed
pub mod Agree
pub mod Sizes
pub mod Table
