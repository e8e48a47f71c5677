use Rattle.std.proofs.Common.{◌≡◌, ◌++◌}
use Rattle.std.specs.Vec.Iter.{into_iter_items}
use Rattle.replay.specs.Parts.{pairs_of}
use Rattle.replay.proofs.tables.pairs_of.Given as goal

-- the pairs so far and those of the entries that are left are all
abbrev pub invariant-loop-entry : goal.invariant-loop-entry
invariant-loop-entry g l = l.pairs.items ++ pairs_of (into_iter_items l.entry-iterator) ≡ pairs_of l.fn.entries.items
