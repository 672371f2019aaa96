pub mod GainedLemmas
pub mod NameCounts
