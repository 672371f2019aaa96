pub mod Codes
pub mod Lines
pub mod Seen
pub mod Judges
pub mod Completes
pub mod InnerJudges
pub mod Answers
