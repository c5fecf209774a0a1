pub mod Groups
pub mod Entries
pub mod Walk
pub mod Removal
pub mod Expansion
pub mod Unwinding
pub mod GroupLaws
pub mod Listing
