use Rattle.std.proofs.Common.{◌≡◌, ℕ, ◌+◌, ◌-◌}
use Rattle.std.specs.Prelude.{vec_len}
use Rattle.calcdb.specs.Plans.{AreNumbered, calls_in}
use Rattle.calcdb.proofs.plans.grow.Given as goal

abbrev pub invariant-loop-alloc : goal.invariant-loop-alloc
invariant-loop-alloc g l = record {
  numbered : AreNumbered 0 l.scripts.items;
  calls : (s : ℕ) → calls_in s l.scripts.items ≡ calls_in s l.fn.scripts.items;
}

abbrev pub decreases-loop-alloc : goal.decreases-loop-alloc
decreases-loop-alloc g l = l.session + 1 - vec_len l.scripts
