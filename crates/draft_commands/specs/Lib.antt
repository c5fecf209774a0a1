pub mod Mailing
pub mod Replying
