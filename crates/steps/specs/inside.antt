-- How the fields of a core stand for a state of the machine, and what its own calls do to them.
pub mod Sends
pub mod SetAside
pub mod InstructionLocks
pub mod CoreFields
pub mod CheckpointFields
pub mod FinishedCheckpoints
pub mod NextPhases
pub mod Instructions
pub mod RecordEdits
pub mod Endings
pub mod LiveEntries
pub mod Openings
pub mod Spots
