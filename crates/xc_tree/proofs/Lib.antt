pub mod Lists
pub mod Parts
pub mod Samples
mod Expressions
mod Statements
mod Programs
