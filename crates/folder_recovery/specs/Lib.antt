pub mod Recovering
pub mod Safe
pub mod Told
