use Rattle.std.proofs.Common.{drop}
use Rattle.workers.specs.declared.checkpoints.Progress.{Progress}
use Rattle.workers.specs.Checkpoints.{MakesAll}
use Rattle.workers.proofs.checkpoints.make_checkpoints.Given as goal

-- what comes of the checkpoints that are left comes of all
abbrev pub invariant-loop-i : goal.invariant-loop-i
invariant-loop-i g l = (u : _) (p : Progress) → MakesAll g.C.Checkpoints.does l.left l.i (drop l.i l.kinds) l.core u p → MakesAll g.C.Checkpoints.does l.fn.turns l.fn.from (drop l.fn.from l.kinds) l.fn.core u p
