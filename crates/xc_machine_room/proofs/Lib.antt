pub mod Picks
pub mod Fits
pub mod Rooms
