pub mod Phases
pub mod Counts
