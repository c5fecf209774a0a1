pub mod Told
pub mod Words
pub mod Users
pub mod Lawful
pub mod Deeds
pub mod Causes
pub mod Statuses
pub mod Laws
