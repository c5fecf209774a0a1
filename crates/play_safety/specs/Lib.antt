pub mod Passes
pub mod Safe
pub mod Appended
pub mod Fitting
pub mod Replies
