pub mod FilingLemmas
pub mod PlayingLemmas
