pub mod NameLemmas
pub mod ReachLemmas
pub mod AnswerLemmas
pub mod CutLemmas
pub mod ShowLemmas
pub mod ArgumentLemmas
pub mod FlatLemmas
pub mod AskLemmas
