pub mod Names
pub mod Format
pub mod Reading
pub mod Laws
pub mod Ways
