pub mod LeftLemmas
pub mod SettingLemmas
