pub mod Effects
pub mod InnerEffects
pub mod Changes
pub mod InnerChanges
pub mod Purity
pub mod Normal
pub mod InnerNormal
pub mod Concurrency
