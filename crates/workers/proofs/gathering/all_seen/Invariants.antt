use Rattle.std.proofs.Common.{◌≡◌, ◌<◌, ℕ, true, false}
use Rattle.std.specs.Prelude.{IsTrue, slice_index_or}
use Rattle.workers.specs.Claims.{is_call_at}
use Rattle.workers.proofs.gathering.all_seen.Given as goal

-- the calls so far are marked
abbrev pub invariant-loop-i : goal.invariant-loop-i
invariant-loop-i g l = (q : ℕ) → q < l.i → IsTrue (is_call_at l.records q) → slice_index_or l.seen q false ≡ true
