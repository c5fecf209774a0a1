pub use Rattle.core_steps.specs.Names
pub mod Ends
pub mod Plans
pub mod Commits
pub mod Told
pub mod Safe
