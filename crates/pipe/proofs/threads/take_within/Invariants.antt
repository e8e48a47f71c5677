use Rattle.std.proofs.Common.{◌+◌}
use mathlib.Core.List.{IsPrefix}
use Rattle.pipe.specs.Rings.{taken, SameDrain}
use Rattle.pipe.proofs.threads.take_within.Given as goal

abbrev pub invariant-loop-count : goal.invariant-loop-count
invariant-loop-count g l = record {
  ring : SameDrain l.initial.drain l.drain;
  taken : IsPrefix (taken l.initial.drain) (taken l.drain);
}

abbrev pub decreases-loop-count : goal.decreases-loop-count
decreases-loop-count g l = l.count + l.turns
