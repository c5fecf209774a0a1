pub mod Fates
pub mod Gathering
pub mod Plans
pub mod QuitLaws
