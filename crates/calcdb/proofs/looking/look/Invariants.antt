use mathlib.Core.List.{IsPrefix}
use Rattle.calcdb.proofs.looking.look.Given as goal

-- nothing is forgotten
abbrev pub invariant-loop : goal.invariant-loop
invariant-loop g l = IsPrefix l.fn.reader.seen l.seen
