pub mod Leaving
pub mod Saving
pub mod Gathering
pub mod Editing
pub mod Telling
pub mod Marking
