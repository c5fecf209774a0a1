pub mod FieldSets
pub mod Summary
pub mod ShownText
