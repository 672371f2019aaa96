pub mod Words
pub mod Names
pub mod Operators
pub mod Places
pub mod Spans
pub mod Nodes
