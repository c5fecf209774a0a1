pub mod CallLemmas
pub mod OperationLemmas
pub mod CauseLemmas
pub mod LawLemmas
pub mod WordLemmas
