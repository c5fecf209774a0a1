pub mod BeginLemmas
pub mod TurnLemmas
pub mod ReachLemmas
pub mod StepLemmas
pub mod WriteLemmas
