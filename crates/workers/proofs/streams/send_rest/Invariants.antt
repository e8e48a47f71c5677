use Rattle.pipe.specs.Rings.{SameTap}
use Rattle.workers.proofs.streams.send_rest.Given as goal

abbrev pub invariant-loop : goal.invariant-loop
invariant-loop g l = SameTap l.initial.tap l.tap
