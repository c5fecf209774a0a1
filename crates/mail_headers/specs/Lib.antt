pub mod Cutting
pub mod Field
pub mod Header
pub mod Parts
pub mod Unfolding
