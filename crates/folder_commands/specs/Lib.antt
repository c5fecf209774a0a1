pub mod Saving
pub mod Leaving
pub mod Making
pub mod Opening
pub mod Growing
pub mod Editing
