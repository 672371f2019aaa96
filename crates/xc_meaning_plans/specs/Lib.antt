pub mod Sound
pub mod Samples
