-- What is settled, sound and known on a disk, and what changes keep of it.
pub mod Settled
pub mod Sound
pub mod Decided
pub mod Known
pub mod KnownNext
pub mod Others
pub mod Lawful
