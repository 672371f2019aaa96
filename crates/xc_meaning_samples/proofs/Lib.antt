pub mod Computed
pub mod QuietProof
pub mod Answered
