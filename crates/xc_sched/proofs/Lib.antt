pub mod StreamLemmas
pub mod BitLemmas
pub mod ReadyLemmas
pub mod RunLemmas
pub mod Laws
pub mod LossLemmas
