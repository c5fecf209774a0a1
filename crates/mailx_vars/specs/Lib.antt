pub mod Environment
pub mod Expansion
pub mod Names
pub mod SettingLaws
pub mod Settings
pub mod Changes
