use Rattle.std.proofs.Common.{◌≡◌, ◌≤◌, false, drop, length}
use Rattle.std.specs.List.{list_any}
use Rattle.procedure.specs.Bytes.{same}
use Rattle.locktable.proofs.locks.take_out.Given as goal

-- the list is as it was, and from the index on the key isn't in it
abbrev pub invariant-loop-index : goal.invariant-loop-index
invariant-loop-index g l = (l.keys ≡ l.fn.keys) × (l.index ≤ length l.keys.items) × (list_any (same l.key) (drop l.index l.keys.items) ≡ false)

abbrev pub decreases-loop-index : goal.decreases-loop-index
decreases-loop-index g l = l.index
