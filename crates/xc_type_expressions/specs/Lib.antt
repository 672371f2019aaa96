pub mod Roles
pub mod Places
pub mod Operations
pub mod Calls
pub mod Types
pub mod Judged
