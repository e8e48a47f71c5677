use Rattle.std.proofs.Common.{◌-◌}
use Rattle.calcdb.proofs.Scanning.{Visited}
use Rattle.calcdb.proofs.run.scan.Given as goal

-- the places that were visited so far
abbrev pub invariant-loop-core : goal.invariant-loop-core
invariant-loop-core g l = Visited g.row.A.Denot l.initial.core l.core

abbrev pub decreases-loop-core : goal.decreases-loop-core
decreases-loop-core g l = l.core.checkpoint.bound - l.core.checkpoint.cursor
