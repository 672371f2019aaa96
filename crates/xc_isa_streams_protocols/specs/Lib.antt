pub mod Weights
pub mod Protocol
pub mod Alone
pub mod Holding
