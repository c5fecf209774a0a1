pub mod TapeLemmas
pub mod PlanLemmas
mod ChildLemmas
pub mod EditLemmas
