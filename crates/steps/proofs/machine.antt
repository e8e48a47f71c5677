-- The machine: each step keeps its invariant.
pub mod OpenCalls
pub mod RecordStatus
pub mod InstructionSteps
pub mod CallEnds
pub mod CallStatuses
pub mod HistoryGrowth
pub mod CallInvariant
pub mod PhaseStatuses
pub mod CheckpointInvariant
pub mod ScheduleInvariant
pub mod ScanKinds
