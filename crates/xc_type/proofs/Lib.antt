mod Types
mod Faults
mod Trees
mod OneText
pub mod OneAnswer
