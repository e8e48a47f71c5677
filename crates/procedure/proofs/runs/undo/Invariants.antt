use Rattle.std.proofs.Common.{◌≡◌, vec_len}
use Rattle.procedure.specs.Table.{with_cells}
use Rattle.procedure.proofs.runs.undo.Given as goal

abbrev pub decreases-loop-was : goal.decreases-loop-was
decreases-loop-was g l = vec_len l.before

-- what is left makes of this table what all of it makes of the first one
abbrev pub invariant-loop-was : goal.invariant-loop-was
invariant-loop-was g l = with_cells l.table l.before.items ≡ with_cells l.fn.table l.fn.before.items
