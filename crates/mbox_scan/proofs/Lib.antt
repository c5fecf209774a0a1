pub mod StartLemmas
pub mod TextLemmas
pub mod MailboxLemmas
pub mod SpanLemmas
pub mod JoinLemmas
pub mod GrowthLemmas
pub mod MessageLemmas
