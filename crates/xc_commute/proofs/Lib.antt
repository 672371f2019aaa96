pub mod Segments
pub mod Touches
pub mod Histories
pub mod Deeds
pub mod Edits
pub mod Halves
