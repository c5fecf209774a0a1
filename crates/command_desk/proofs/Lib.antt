pub mod MacroLemmas
pub mod MeansLemmas
pub mod FlagLemmas
pub mod DeskLemmas
pub mod EffectLemmas
pub mod ChosenLemmas
