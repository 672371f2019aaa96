pub mod Inits
pub mod Stmts
