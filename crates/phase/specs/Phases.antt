-- The order of the phases, and when one may be left.
use Rattle.std.specs.Prelude.{◌≡◌, ℕ, List, Option, Some, None, slice_get, codes}
pub use Rattle.phase.specs.declared.phases.Phase.{Phase}
pub use Rattle.phase.specs.declared.phases.Phase.TheVariants.{Rest, Prepare, Resolve, Capture, Complete}

-- the phase that follows
abbrev pub successor : Phase → Phase
successor Rest = Prepare
successor Prepare = Resolve
successor Resolve = Capture
successor Capture = Complete
successor Complete = Rest

-- the start phase of each session's open call
abbrev pub Starts : Type 0
Starts = List (Option Phase)

-- every open call started in this phase
abbrev pub AllStartedIn : Phase → Starts → Type 0
AllStartedIn p starts = (s : ℕ) (q : Phase) → slice_get starts s ≡ Some (Some q) → q ≡ p

-- rest and capture may be left whatever calls are open, another phase where every open call started in it
abbrev pub MayLeave : Phase → Starts → Type 0
MayLeave Rest starts = Unit {0}
MayLeave Prepare starts = AllStartedIn Prepare starts
MayLeave Resolve starts = AllStartedIn Resolve starts
MayLeave Capture starts = Unit {0}
MayLeave Complete starts = AllStartedIn Complete starts

-- an open call's start phase is rest from now on
abbrev pub restarted_phase : Option Phase → Option Phase
restarted_phase None = None
restarted_phase (Some p) = Some Rest

-- the name of a phase
abbrev pub phase_text : Phase → List ℕ
phase_text Rest = codes "rest"
phase_text Prepare = codes "prepare"
phase_text Resolve = codes "resolve"
phase_text Capture = codes "capture"
phase_text Complete = codes "complete"
