pub mod Class
pub mod Parts
pub mod Local
pub mod Promises
pub mod TwoStreams
pub mod InnerTwoStreams
