pub mod Words
pub mod Options
pub mod Modes
pub mod Readings
pub mod Names
