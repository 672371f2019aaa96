pub mod World
pub mod Runs
