pub mod CutLemmas
pub mod EntryLemmas
pub mod FieldLemmas
pub mod PartsLemmas
pub mod UnfoldLemmas
pub mod LawLemmas
