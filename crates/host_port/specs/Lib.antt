pub mod Names
pub mod Disk
pub mod Ends
pub mod Calls
pub mod Own
pub mod Ran
