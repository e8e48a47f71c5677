-- The phases of a checkpoint.
pub mod PhaseEnds
pub mod AddedToken
pub mod StartedCheckpoint
pub mod ResolveAndRest
pub mod TakenImage
pub mod FrozenKeys
pub mod AbandonedCheckpoint
