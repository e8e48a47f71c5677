use Rattle.std.proofs.Common.{◌≡◌}
use Rattle.std.specs.FinMap as map
use Rattle.std.specs.Vec.Iter.{into_iter_items}
use Rattle.procedure.specs.Table.{with_pairs}
use Rattle.procedure.proofs.tables.inserted.Given as goal

-- the pairs that are left make of this map what all of them make of the empty one
abbrev pub invariant-loop-key : goal.invariant-loop-key
invariant-loop-key g l = with_pairs l.made (into_iter_items l.key-iterator) ≡ with_pairs map.empty l.fn.pairs.items
