use Rattle.std.proofs.Common.{subst}
use Rattle.procedure.specs.Bytes.{Bytes}
use Rattle.commitlog.specs.LogBytes.{value_bytes}
use Rattle.commitlog.proofs.body_writing.write_value.Goals as goal

pub returns : goal.returns
returns g c =
    subst (λ (v : Bytes). g.P.Pieces.Takes c.args.out.now c.take.new.self (value_bytes v)) c.as_bytes-bytes.ensures.value
    (g.met.P.Pieces.more _ _ _ _ _ c.take_u16.ensures c.take.ensures)
