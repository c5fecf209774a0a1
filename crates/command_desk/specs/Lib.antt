pub mod Desks
pub mod Naming
pub mod Effects
pub mod Faults
pub mod Answers
pub mod Selecting
pub mod Messages
pub mod FileNames
