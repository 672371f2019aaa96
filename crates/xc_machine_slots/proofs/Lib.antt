pub mod Registers
pub mod Picks
