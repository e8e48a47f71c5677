use Rattle.std.specs.declared.result.Result.{Result}
use Rattle.workers.specs.declared.checkpoints.TheConstants.{MOVES}
use Rattle.workers.specs.declared.checkpoints.Reached.{Reached}
use Rattle.workers.specs.declared.errors.CheckpointRefusal.{CheckpointRefusal}
use Rattle.workers.specs.Checkpoints.{GoesOn}
use Rattle.workers.proofs.checkpoints.go_on.Given as goal

-- what comes of the phases that are left comes of all
abbrev pub invariant-loop-left : goal.invariant-loop-left
invariant-loop-left g l = (u : _) (r : Result Reached CheckpointRefusal) → GoesOn g.C.Checkpoints.does l.left l.core u r → GoesOn g.C.Checkpoints.does MOVES l.fn.core u r

abbrev pub decreases-loop-left : goal.decreases-loop-left
decreases-loop-left g l = l.left
