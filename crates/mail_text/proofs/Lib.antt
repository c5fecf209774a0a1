pub mod FrontLemmas
pub mod HoldingLemmas
pub mod LineLemmas
pub mod NumberLemmas
