pub mod Rulings
pub mod Places
