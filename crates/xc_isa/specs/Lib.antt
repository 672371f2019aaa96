pub mod Words
pub mod Effects
pub mod Texts
pub mod Targets
pub mod Machine
pub mod Runs
