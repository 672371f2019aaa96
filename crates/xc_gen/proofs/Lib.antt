pub mod Emitting
pub mod Ways
pub mod Grows
pub mod Deeds
pub mod Places
pub mod Paths
pub mod Prints
pub mod TermRuns
pub mod CommandRuns
pub mod Whole
pub mod Formats
pub mod Typed
pub mod Laid
pub mod Lines
mod Samples
