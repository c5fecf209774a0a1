pub mod Changes
pub mod Outcomes
pub mod Apply
pub mod ListLaws
