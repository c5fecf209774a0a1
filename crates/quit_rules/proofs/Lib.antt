pub mod StepLemmas
pub mod PlanLemmas
pub mod QuitLawLemmas
