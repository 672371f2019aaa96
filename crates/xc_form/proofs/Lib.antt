pub mod Walks
mod Reasons
