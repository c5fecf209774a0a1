pub mod Sending
pub mod Ending
