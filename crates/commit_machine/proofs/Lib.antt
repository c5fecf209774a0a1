pub mod records
pub mod standing
pub mod steps
pub mod runs
pub mod told
