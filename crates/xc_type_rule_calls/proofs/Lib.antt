mod Passing
pub mod Formats
