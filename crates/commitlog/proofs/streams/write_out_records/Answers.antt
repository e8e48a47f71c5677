use Rattle.std.proofs.Common.{◌+◌, drop, sym, ap, subst}
use Rattle.std.proofs.lemmas.Result.{err_from_is_err_and}
use Rattle.procedure.specs.Bytes.{Bytes}
use Rattle.commitlog.specs.LogBytes.{records_bytes}
use Rattle.procedure.proofs.WriteProgress.{Gone, more_gone, begun_on, next_item}
use Rattle.commitlog.proofs.streams.write_out_records.Goals as goal

pub returns-in_err-digest-clause-err : goal.returns-in_err-digest-clause-err
returns-in_err-digest-clause-err g c =
    let p = err_from_is_err_and c.from_residual.result c.from_residual.ensures.1 in
    let l = c.loop-record in
    rw p.1 (begun_on _ _ _ _ _ _ _ l.invariant (ap (records_bytes l.digest) (next_item _ _ _ c.loop-record-test.true c.record-item.is)) c.in_err-digest.ensures.err)

pub loop-record-preserved : goal.loop-record-preserved
loop-record-preserved g c =
    let contents = g.W.Write.contents in
    let l = c.loop-record in
    let rs = c.args.records.now in
    let more = more_gone _ _ _ _ _ _ _ l.invariant (ap (records_bytes l.digest) (next_item _ _ _ c.loop-record-test.true c.record-item.is)) c.in_ok-digest.ensures.ok in
    subst (λ (d : Bytes). Gone (contents c.args.writer.now) (contents c.write_out_record.new.writer) (records_bytes c.args.digest rs) (records_bytes d (drop (l.record-index + 1) rs)))
    (sym c.in_ok-digest.ensures.digest) more
