pub mod WalkLemmas
pub mod AddressingLemmas
