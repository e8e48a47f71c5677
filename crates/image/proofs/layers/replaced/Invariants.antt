use Rattle.image.proofs.Replacing.{Sifting}
use Rattle.image.proofs.layers.replaced.Given as goal

-- those that stay and those that are left say over the older list what all say over it as it was
abbrev pub invariant-loop-index : goal.invariant-loop-index
invariant-loop-index g l = Sifting l.fn.older.items l.fn.newer.items l.older.items l.newer.items l.count l.index
