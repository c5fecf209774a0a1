-- Names, records and jobs as they are written.
pub mod Same
pub mod Names
pub mod InFile
pub mod Front
pub mod OfItems
pub mod OfJob
pub mod Edits
