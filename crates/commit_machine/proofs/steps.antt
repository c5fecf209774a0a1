-- Each own event keeps what is known, by the states.
pub mod Shown
pub mod Right
pub mod Mending
pub mod Removals
pub mod Closing
pub mod OwnRecord
pub mod Making
pub mod Decision
