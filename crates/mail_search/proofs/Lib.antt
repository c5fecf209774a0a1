pub mod CriterionLemmas
pub mod FoundLemmas
pub mod MatchingLemmas
pub mod NameLemmas
pub mod ReadLemmas
pub mod SpanLemmas
pub mod StepLemmas
pub mod TokenLemmas
