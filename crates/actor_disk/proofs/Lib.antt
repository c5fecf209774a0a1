pub mod StartLemmas
pub mod SettleLemmas
pub mod SeeLemmas
