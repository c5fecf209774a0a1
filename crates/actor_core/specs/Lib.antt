pub mod Shown
pub mod Turning
pub mod Answers
