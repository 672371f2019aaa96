pub mod Numbered
pub mod Stretches
pub mod Scoped
