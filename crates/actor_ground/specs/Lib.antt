pub mod CallEnds
pub mod Soundness
