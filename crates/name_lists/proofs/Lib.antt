pub mod NameLemmas
mod PlaceLemmas
