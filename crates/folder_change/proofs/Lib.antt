pub mod DifferenceLemmas
pub mod OutcomeLemmas
pub mod LawLemmas
pub mod ApplyLemmas
