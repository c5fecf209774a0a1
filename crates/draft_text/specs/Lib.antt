pub mod Texts
pub mod DraftLaws
pub mod Addresses
pub mod Replies
pub mod ReplyLaws
