pub mod Samples
pub mod QuietSample
pub mod SerialSamples
