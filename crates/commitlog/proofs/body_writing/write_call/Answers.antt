use Rattle.std.proofs.Common.{subst, List}
use Rattle.procedure.specs.Bytes.{Bytes}
use Rattle.commitlog.specs.LogBytes.{arguments_bytes}
use Rattle.commitlog.proofs.body_writing.write_call.Goals as goal

pub returns : goal.returns
returns g c =
    let more = g.met.P.Pieces.more in
    let args = subst (λ (x : List Bytes). g.P.Pieces.Takes c.write_head.new.out c.write_arguments.new.out (arguments_bytes x)) c.as_slice.ensures c.write_arguments.ensures in
    more _ _ _ _ _ c.take.ensures (more _ _ _ _ _ c.write_head.ensures (more _ _ _ _ _ args c.write_answer.ensures))
