pub mod ScriptLemmas
pub mod TextLemmas
