mod CycleLemmas
mod ForestLemmas
mod NamingLemmas
mod OrderLemmas
mod PermutationLemmas
mod RunLemmas
mod SortLemmas
mod ThreadLemmas
mod TrailLemmas
mod WalkLemmas
pub mod ViewsLemmas
mod OneViewLemmas
