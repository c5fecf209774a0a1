pub mod Messages
pub mod Rows
