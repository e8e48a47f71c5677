-- How a call that enters the next phase ends.
use Rattle.std.specs.Prelude.{◌≡◌, Ok, Err}
use Rattle.std.specs.declared.result.Result.{Result}
use Rattle.phase.specs.declared.phases.Phase.{Phase}
use Rattle.steps.specs.CoreViews.{CoreView}
use Rattle.steps.specs.Checkpointing.{AdvancesTo}

-- the phase is entered, or for want of memory nothing changes
abbrev pub Enters : {X E : Type 0} → Phase → (old new : CoreView) → Result X E → Type 0
Enters p old new (Ok x) = AdvancesTo p old new
Enters p old new (Err e) = new ≡ old
