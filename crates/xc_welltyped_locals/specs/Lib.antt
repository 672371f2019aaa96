pub mod Seen
pub mod Used
