pub mod Follows
pub mod Slots
pub mod TextLaws
