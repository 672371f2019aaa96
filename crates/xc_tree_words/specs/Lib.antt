pub mod Words
pub mod Constants
