pub mod ChangeLemmas
pub mod LeavingLemmas
pub mod KindLemmas
pub mod RunLemmas
pub mod RowLemmas
