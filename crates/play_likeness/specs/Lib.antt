pub mod Loads
pub mod Jobs
pub mod Outside
pub mod Plays
