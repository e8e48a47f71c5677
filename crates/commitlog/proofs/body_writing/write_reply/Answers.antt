use Rattle.std.proofs.Common.{subst, sym}
use Rattle.procedure.specs.Bytes.{Cell}
use Rattle.commitlog.specs.LogBytes.{reply_bytes}
use Rattle.commitlog.proofs.body_writing.write_reply.Goals as goal

pub returns-in-Some : goal.returns-in-Some
returns-in-Some g c =
    subst (λ (r : Cell). g.P.Pieces.Takes c.args.out.now c.write_value.new.out (reply_bytes r)) (sym c.in-Some.is)
    (g.met.P.Pieces.more _ _ _ _ _ c.take-in-Some.ensures c.write_value.ensures)
