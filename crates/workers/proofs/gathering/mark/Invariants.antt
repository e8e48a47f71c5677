use Rattle.std.proofs.Common.{◌≡◌, ◌<◌, ℕ, false, length, take, vec_len}
use Rattle.std.specs.Prelude.{slice_index_or}
use Rattle.workers.specs.declared.gathering.Claim.{Claim}
use Rattle.workers.specs.Claims.{IsOf, times, mark_of}
use Rattle.workers.proofs.gathering.mark.Given as goal

-- the claims so far fit, and their places are those that are marked
abbrev pub invariant-loop-claim : goal.invariant-loop-claim
invariant-loop-claim g l = record {
  len : vec_len l.seen ≡ length l.records;
  fit : (k : ℕ) (d : Claim g.row.A.Denot) → k < l.claim-index → IsOf l.records (slice_index_or l.claims k d);
  once : (p : ℕ) → p < length l.records → times p (take l.claim-index l.claims) ≡ mark_of (slice_index_or l.seen.items p false);
}
