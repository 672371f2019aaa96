pub mod Touch
pub mod Replay
pub mod Threads
