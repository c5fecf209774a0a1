mod NamedLemmas
pub mod ReplayLemmas
