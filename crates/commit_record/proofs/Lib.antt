pub mod NumberLemmas
pub mod FormatLemmas
pub mod ReadingLemmas
