pub mod Place
pub mod Stretches
