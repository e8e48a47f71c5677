-- The calls of sessions.
pub mod AcceptedCalls
pub mod BegunCall
pub mod EndedCall
pub mod CallProgress
pub mod AnsweredCall
pub mod SteppedCall
pub mod KeptInstructions
pub mod LockGrants
pub mod BarredTouches
pub mod SteppedSession
pub mod FoundCalls
