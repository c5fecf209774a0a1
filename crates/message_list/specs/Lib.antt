pub mod ListWords
pub mod LocalParts
pub mod Places
pub mod ByRow
pub mod Naming
pub mod Selections
pub mod Marking
pub mod Choosing
