pub mod Events
pub mod Meaning
pub mod Traces
pub mod Steady
