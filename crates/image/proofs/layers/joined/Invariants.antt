use Rattle.std.proofs.Common.{◌+◌, length}
use Rattle.image.proofs.FromTheBack.{Joining}
use Rattle.image.proofs.Joins.{union}
use Rattle.image.proofs.layers.joined.Given as goal

-- what is left of the two and what stands behind the gap make the whole
abbrev pub invariant-loop-last : goal.invariant-loop-last
invariant-loop-last g l = Joining (union l.fn.older.items l.fn.newer.items) l.older.items l.newer.items l.left l.at

abbrev pub decreases-loop-last : goal.decreases-loop-last
decreases-loop-last g l = l.left + length l.newer.items
