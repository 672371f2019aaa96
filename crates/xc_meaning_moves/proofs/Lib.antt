pub mod Steps
pub mod Interprets
pub mod Exact
pub mod Grows
