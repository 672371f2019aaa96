pub mod Streams
pub mod Bits
pub mod Choices
pub mod Runs
pub mod InnerRuns
pub mod Drafts
pub mod Faults
pub mod Losses
