pub mod JobLemmas
pub mod AnswerLemmas
pub mod MomentLemmas
pub mod LineLemmas
pub mod ActLemmas
pub mod AlikeLemmas
