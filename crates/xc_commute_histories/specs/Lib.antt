pub mod History
pub mod InnerHistory
pub mod Runs
pub mod InnerRuns
pub mod Counter
pub mod GoesBack
pub mod TwoFills
