pub mod NameLemmas
pub mod PlaceLemmas
pub mod DefinitionLemmas
pub mod LawLemmas
