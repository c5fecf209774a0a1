pub mod Filing
pub mod Playing
