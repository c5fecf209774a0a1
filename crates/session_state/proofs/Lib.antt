pub mod ActorLemmas
pub mod MemoryLemmas
pub mod NameLemmas
pub mod OriginLemmas
pub mod PendingLemmas
pub mod PlacingLemmas
pub mod RestLemmas
pub mod SavingLemmas
