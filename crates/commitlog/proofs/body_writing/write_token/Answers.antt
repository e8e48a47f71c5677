use Rattle.std.proofs.Common.{◌∷◌, ℕ, subst}
use Rattle.byteorder.specs.Endian.{big_bytes}
use Rattle.commitlog.proofs.body_writing.write_token.Goals as goal

pub returns : goal.returns
returns g c =
    subst (λ (code : ℕ). g.P.Pieces.Takes c.args.out.now c.take_u64.new.out (0 ∷ code ∷ big_bytes 8 c.args.number)) c.phase_code.ensures
    (g.met.P.Pieces.more _ _ _ _ _ c.take.ensures c.take_u64.ensures)
