-- What the own events of a run tell: whether it was decided, what it never does, what it meets.
pub mod Decisions
pub mod Refusals
pub mod Faults
pub mod Restraints
pub mod Meetings
pub mod Events
