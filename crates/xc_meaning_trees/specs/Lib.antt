pub mod References
pub mod Trees
pub mod Samples
