pub mod Specifiers
pub mod Declarators
