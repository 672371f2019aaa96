pub mod Shown
pub mod WordCounts
pub mod Slots
pub mod Rooms
pub mod SlotSteps
pub mod Globals
pub mod Flags
pub mod RunLaws
