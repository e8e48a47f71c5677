use Rattle.std.proofs.Common.{◌+◌}
use Rattle.std.specs.declared.result.Result.{Result}
use Rattle.steps.specs.declared.errors.CaptureError.{CaptureError}
use Rattle.image.specs.declared.limits.TheConstants.{ENTRIES}
use Rattle.workers.specs.Checkpoints.{Scans}
use Rattle.workers.proofs.checkpoints.scan.Given as goal

-- what comes of the places that are left comes of all
abbrev pub invariant-loop-left : goal.invariant-loop-left
invariant-loop-left g l = (u : _) (r : Result (Unit {0}) CaptureError) → Scans g.C.Checkpoints.does l.left l.core u r → Scans g.C.Checkpoints.does (ENTRIES + 1) l.fn.core u r

abbrev pub decreases-loop-left : goal.decreases-loop-left
decreases-loop-left g l = l.left
