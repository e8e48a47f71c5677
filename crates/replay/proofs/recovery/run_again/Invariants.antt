use Rattle.std.proofs.Common.{length}
use Rattle.replay.proofs.Reruns.{SoFar}
use Rattle.replay.proofs.recovery.run_again.Given as goal

-- what the records so far have made
abbrev pub invariant-loop-table : goal.invariant-loop-table
invariant-loop-table g l = SoFar l.catalog l.fn.table l.from l.fn.records l.records l.table l.calls l.place

abbrev pub decreases-loop-table : goal.decreases-loop-table
decreases-loop-table g l = length l.records
