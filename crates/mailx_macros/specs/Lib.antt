pub mod Macros
pub mod MacroLaws
