pub mod Operands
pub mod InnerOperands
pub mod Instructions
pub mod InnerInstructions
pub mod Texts
pub mod Readings
pub mod InnerReadings
pub mod Faults
