-- The abstract machine for which a core stands: its steps, and what holds between them.
pub mod Machine
pub mod Invariant
pub mod NewestFirst
pub mod ScheduleAnswers
