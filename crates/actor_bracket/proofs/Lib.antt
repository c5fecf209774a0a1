pub mod StandLemmas
pub mod RewriteLemmas
pub mod PlanLemmas
pub mod EditLemmas
pub mod RestLemmas
pub mod ReplayLemmas
pub mod GoingLemmas
