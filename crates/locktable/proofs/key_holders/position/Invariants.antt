use Rattle.std.proofs.Common.{◌≡◌, ◌≤◌, None, drop, length}
use Rattle.procedure.proofs.Maps.{at_key}
use Rattle.locktable.proofs.key_holders.position.Given as goal

-- from the index on the key isn't in the list
abbrev pub invariant-loop-index : goal.invariant-loop-index
invariant-loop-index l = (l.index ≤ length l.few) × (at_key (drop l.index l.few) l.key ≡ None)

abbrev pub decreases-loop-index : goal.decreases-loop-index
decreases-loop-index l = l.index
