pub mod Printing
pub mod Paging
pub mod Telling
