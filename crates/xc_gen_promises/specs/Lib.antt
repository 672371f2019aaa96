pub mod Tags
pub mod Promises
