use Rattle.std.proofs.Common.{◌≡◌, ◌+◌, ◌≤◌, length, drop}
use Rattle.image.specs.Joins.{lent, present}
use Rattle.image.proofs.merges.count_present.Given as goal

-- those counted and those left are all
abbrev pub invariant-loop-entry : goal.invariant-loop-entry
invariant-loop-entry g l = record {
  counted : l.count + length (present (lent (drop l.entry-index l.changes))) ≡ length (present (lent l.changes));
  few : l.count ≤ l.entry-index;
}
