pub mod Running
pub mod Editing
pub mod Piping
pub mod Listing
