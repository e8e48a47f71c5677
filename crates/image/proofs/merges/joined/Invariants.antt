use Rattle.std.proofs.Common.{◌≡◌, ◌+◌, ◌-◌, ◌≤◌, ◌++◌, length, drop}
use Rattle.image.specs.Joins.{lent}
use Rattle.image.proofs.Joins.{union}
use Rattle.image.proofs.merges.joined.Given as goal

-- what is out and what is left of the two make the whole
abbrev pub invariant-loop-i : goal.invariant-loop-i
invariant-loop-i g l = record {
  whole : lent l.out.items ++ union (lent (drop l.i l.older)) (lent (drop l.j l.newer)) ≡ union (lent l.older) (lent l.newer);
  in_older : l.i ≤ length l.older;
  in_newer : l.j ≤ length l.newer;
}

abbrev pub decreases-loop-i : goal.decreases-loop-i
decreases-loop-i g l = (length l.older - l.i) + (length l.newer - l.j)
