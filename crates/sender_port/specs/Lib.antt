pub mod Names
pub mod Sending
