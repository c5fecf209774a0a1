pub mod Did
pub mod Steps
pub mod Places
pub mod Holding
pub mod Judging
pub mod Answers
pub mod Drives
pub mod Beginnings
