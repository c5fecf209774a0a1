pub mod GoesLemmas
pub mod UndecidedLemmas
pub mod RecoverLemmas
pub mod SafeLemmas
pub mod ToldLemmas
pub mod BusyLemmas
