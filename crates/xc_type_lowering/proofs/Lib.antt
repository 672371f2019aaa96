pub mod Types
pub mod Names
pub mod Expressions
pub mod Folded
pub mod Statements
