pub mod Fetches
pub mod Sources
pub mod Judging
pub mod Completing
pub mod Running
