pub mod TraceLemmas
pub mod CoverLemmas
pub mod SafeLemmas
pub mod LawLemmas
pub mod DecidedLemmas
pub mod AppendedLemmas
pub mod FitLemmas
pub mod ReplyLemmas
