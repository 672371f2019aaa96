pub mod Registers
pub mod Seats
pub mod Picks
