use Rattle.std.proofs.Common.{◌≡◌}
use Rattle.pipe.specs.Rings.{sent, SameTap}
use Rattle.pipe.proofs.threads.send_again.Given as goal

abbrev pub invariant-loop-turns : goal.invariant-loop-turns
invariant-loop-turns g l = record {
  ring : SameTap l.initial.tap l.tap;
  sent : sent l.tap ≡ sent l.initial.tap;
  entry : l.entry ≡ l.initial.entry;
}

abbrev pub decreases-loop-turns : goal.decreases-loop-turns
decreases-loop-turns g l = l.turns
