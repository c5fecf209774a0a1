pub mod NameLemmas
pub mod PairLemmas
pub mod PlaceLemmas
pub mod SettingLemmas
