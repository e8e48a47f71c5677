use Rattle.std.proofs.Common.{◌≡◌, ◌≤◌, ◌++◌, vec_capacity, length}
use Rattle.rtrb.specs.Ring as ring
use mathlib.Core.List.{IsPrefix}
use Rattle.image.specs.declared.limits.TheConstants.{ENTRIES}
use Rattle.pipe.specs.Rings.{taken}
use Rattle.pipe.proofs.drains.Drain.all_after.Given as goal

-- what is kept is what was received, and what is known is all that is left
abbrev pub invariant-loop-kept : goal.invariant-loop-kept
invariant-loop-kept g l = record {
  kept : l.kept.items ≡ ring.received l.consumer;
  whole : ring.received l.consumer ++ ring.known_items l.consumer ≡ ring.all_sent l.initial.end.finished;
  front : IsPrefix (taken l.fn.self) l.kept.items;
  room : ENTRIES ≤ vec_capacity l.kept;
}

abbrev pub decreases-loop-kept : goal.decreases-loop-kept
decreases-loop-kept g l = length (ring.known_items l.consumer)
