use Rattle.std.proofs.Common.{◌≡◌, ◌++◌, drop}
use Rattle.image.specs.Joins.{lent, present}
use Rattle.image.proofs.merges.copy_of_present.Given as goal

-- the copy so far and those left are all
abbrev pub invariant-loop-entry : goal.invariant-loop-entry
invariant-loop-entry g l = l.copy.items ++ present (lent (drop l.entry-index l.changes)) ≡ present (lent l.changes)
