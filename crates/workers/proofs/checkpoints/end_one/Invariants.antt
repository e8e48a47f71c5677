use Rattle.std.proofs.Common.{ℕ, Bool}
use Rattle.std.specs.declared.result.Result.{Result}
use Rattle.workers.specs.declared.errors.CheckpointRefusal.{CheckpointRefusal}
use Rattle.workers.specs.Checkpoints.{Ends}
use Rattle.workers.proofs.checkpoints.end_one.Given as goal

-- what comes of the turns that are left comes of all
abbrev pub invariant-loop-left : goal.invariant-loop-left
invariant-loop-left g l = (m : ℕ) (u : _) (r : Result Bool CheckpointRefusal) → Ends g.C.Checkpoints.does l.left m l.core u r → Ends g.C.Checkpoints.does l.fn.left m l.fn.core u r

abbrev pub decreases-loop-left : goal.decreases-loop-left
decreases-loop-left g l = l.left
