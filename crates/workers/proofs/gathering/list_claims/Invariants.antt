use Rattle.std.proofs.Common.{◌≡◌, ◌++◌}
use Rattle.std.specs.Vec.Iter.{into_iter_items}
use Rattle.workers.specs.Claims.{all_claims}
use Rattle.workers.proofs.gathering.list_claims.Given as goal

-- those so far, and those of the shares that are left
abbrev pub invariant-loop-share : goal.invariant-loop-share
invariant-loop-share g l = l.all.items ++ all_claims (into_iter_items l.share-iterator) ≡ all_claims l.fn.shares.items
