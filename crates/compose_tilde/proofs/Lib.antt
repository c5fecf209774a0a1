pub mod BlankLemmas
pub mod FlatLemmas
pub mod GrownLemmas
pub mod BodyLemmas
pub mod WaitLemmas
pub mod LetterLemmas
