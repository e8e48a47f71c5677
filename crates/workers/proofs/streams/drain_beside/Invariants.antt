use Rattle.pipe.specs.Rings.{SameDrain}
use Rattle.workers.proofs.streams.drain_beside.Given as goal

abbrev pub invariant-loop : goal.invariant-loop
invariant-loop g l = SameDrain l.initial.drain l.drain
