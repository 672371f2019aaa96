pub mod Agrees
pub mod Callees
