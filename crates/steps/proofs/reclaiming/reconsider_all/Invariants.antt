use Rattle.std.proofs.Common.{◌≡◌, ℕ, ◌<◌, false}
use Rattle.steps.specs.inside.SetAside.{SameRecords, aside_at}
use Rattle.steps.proofs.reclaiming.reconsider_all.Given as goal

abbrev pub invariant-loop-slot : goal.invariant-loop-slot
invariant-loop-slot g l = record {
  records : SameRecords l.fn.store l.store;
  none : (slot : ℕ) → slot < l.slot → aside_at l.store slot ≡ false;
}
