pub mod Places
pub mod ChosenLemmas
pub mod LeavingLemmas
pub mod SavingLemmas
pub mod GatheringLemmas
pub mod EditingLemmas
pub mod TellingLemmas
pub mod OtherLemmas
