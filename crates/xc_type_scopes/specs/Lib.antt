pub mod Env
pub mod Judge
pub mod Told
pub mod InnerTold
