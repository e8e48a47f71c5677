use Rattle.pipe.specs.Rings.{SameDrain, SameTap}
use Rattle.workers.proofs.streams.stream_alone.Given as goal

abbrev pub invariant-loop : goal.invariant-loop
invariant-loop g l = SameTap l.initial.tap l.tap × SameDrain l.initial.drain l.drain
