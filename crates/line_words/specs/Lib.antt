pub mod Spellings
pub mod Table
pub mod Enclosed
pub mod Words
pub mod Cutting
pub mod Line
pub mod Laws
