pub mod Sessions
pub mod Drafting
pub mod Fetching
pub mod Taking
pub mod Leaving
pub mod Rounds
pub mod Startup
pub mod Safe
