pub mod Agrees
pub mod Traces
