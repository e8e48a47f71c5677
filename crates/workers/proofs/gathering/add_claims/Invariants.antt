use Rattle.std.proofs.Common.{◌≡◌, ◌++◌}
use Rattle.std.specs.Vec.Iter.{into_iter_items}
use Rattle.workers.specs.Claims.{claims_of}
use Rattle.workers.proofs.gathering.add_claims.Given as goal

-- those so far, and those of the answers that are left
abbrev pub invariant-loop-response : goal.invariant-loop-response
invariant-loop-response g l = l.all.items ++ claims_of l.session (into_iter_items l.response-iterator) ≡ l.initial.all.items ++ claims_of l.session l.fn.answers.items
