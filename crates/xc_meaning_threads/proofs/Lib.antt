pub mod Steadiness
pub mod Goes
pub mod Closed
