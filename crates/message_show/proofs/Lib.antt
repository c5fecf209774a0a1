pub mod SummaryLemmas
pub mod TextLemmas
