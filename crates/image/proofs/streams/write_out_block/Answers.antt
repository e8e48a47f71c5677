use Rattle.std.proofs.Common.{subst}
use Rattle.std.proofs.lemmas.Result.{err_from_is_err_and}
use Rattle.image.specs.ImageBytes.{block_bytes}
use Rattle.procedure.specs.Streams.{IsBegun}
use Rattle.procedure.proofs.WriteProgress.{lent}
use Rattle.image.proofs.streams.write_out_block.Goals as goal

pub returns-in_err-write_out-clause-err : goal.returns-in_err-write_out-clause-err
returns-in_err-write_out-clause-err g c =
    let p = err_from_is_err_and c.from_residual-in_err-write_out.result c.from_residual-in_err-write_out.ensures.1 in
    let written = lent (block_bytes c.args.before.now c.args.entries.now) _ _ c.clear.ensures.items c.in_ok-digest.ensures.bytes _ c.as_slice.ensures.value in
    rw p.1 (subst (IsBegun (g.W.Write.contents c.args.writer.now) (g.W.Write.contents c.write_out.new.writer)) written c.in_err-write_out.ensures.err)
