pub mod NextLemmas
pub mod MakingLemmas
pub mod GrowingLemmas
pub mod EditingLemmas
