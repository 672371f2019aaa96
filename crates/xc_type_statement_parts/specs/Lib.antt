pub mod Making
pub mod Answers
pub mod Pragmas
pub mod Declarations
pub mod Futures
