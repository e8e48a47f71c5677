use Rattle.std.proofs.Common.{length}
use Rattle.procedure.proofs.WriteProgress.{Gone}
use Rattle.procedure.proofs.streams.write_out.Given as goal

abbrev pub invariant-loop-rest : goal.invariant-loop-rest
invariant-loop-rest g l = Gone (g.W.Write.contents l.fn.writer) (g.W.Write.contents l.writer) l.bytes l.rest

abbrev pub decreases-loop-rest : goal.decreases-loop-rest
decreases-loop-rest g l = length l.rest
