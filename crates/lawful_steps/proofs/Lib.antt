pub mod LawfulLemmas
pub mod TraceLemmas
