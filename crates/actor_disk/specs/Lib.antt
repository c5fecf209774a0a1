pub mod Starting
pub mod Settling
pub mod Seeing
