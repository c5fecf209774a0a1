pub mod Reaching
pub mod Answering
pub mod Cutting
pub mod Showing
pub mod Arguments
pub mod Lines
pub mod Asking
