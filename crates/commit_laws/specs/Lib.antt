pub mod Asking
pub mod Kinds
pub mod Folders
pub mod NewMail
pub mod Others
pub mod TooLong
pub mod Premises
