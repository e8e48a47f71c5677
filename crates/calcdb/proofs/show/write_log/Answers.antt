use Rattle.std.proofs.Common.{◌++◌, inl, length, subst}
use Rattle.std.proofs.KnownBytes.{Appends-trans}
use Rattle.std.proofs.lemmas.Result.{IfErr-weaker, err_from_is_err_and, on_ok_weaker}
use Rattle.std.specs.Io.KnownBytes.{Appends}
use Rattle.calcdb.specs.Showing.{StopsIn, count_text, records_text}
use Rattle.calcdb.proofs.Shown.{front_stops, rest_breaks_off}
use Rattle.calcdb.proofs.show.write_log.Goals as goal
use Rattle.calcdb.proofs.show.write_log.Goals.{In_ok-write_count}

-- the first line, by the number of the records
counted : (g : _) (c : In_ok-write_count g) → Appends (g.W.Write.contents c.args.writer.now) (g.W.Write.contents c.write_count.new.writer) (count_text (length c.args.records) c.args.ending)
counted g c =
    subst (λ n. Appends (g.W.Write.contents c.args.writer.now) (g.W.Write.contents c.write_count.new.writer) (count_text n c.args.ending)) c.len.ensures.value c.in_ok-write_count.ensures.ok

pub returns-in_err-write_count-clause-err : goal.returns-in_err-write_count-clause-err
returns-in_err-write_count-clause-err g c =
    let old = g.W.Write.contents c.args.writer.now in
    let new = g.W.Write.contents c.write_count.new.writer in
    let rs = c.args.records in
    let p = err_from_is_err_and c.from_residual.result c.from_residual.ensures.1 in
    rw (p.1, p.2)
    (subst (λ n. StopsIn (count_text n c.args.ending ++ records_text 0 rs) old new c.in_err-write_count.field-0.0) c.len.ensures.value
    (front_stops old new (count_text c.len.result c.args.ending) (records_text 0 rs) c.in_err-write_count.field-0.0 c.in_err-write_count.ensures.err))

pub returns-clause-ok : goal.returns-clause-ok
returns-clause-ok g c =
    let now = g.W.Write.contents c.write_count.new.writer in
    let new = g.W.Write.contents c.write_records.new.writer in
    let rs = c.args.records in
    on_ok_weaker c.write_records.result
    (Appends-trans (g.W.Write.contents c.args.writer.now) now new (count_text (length rs) c.args.ending) (records_text 0 rs) (counted g (goal.at.returns-clause-ok g c).In_ok-write_count))
    c.write_records.ensures.ok

pub returns-clause-err : goal.returns-clause-err
returns-clause-err g c =
    let old = g.W.Write.contents c.args.writer.now in
    let now = g.W.Write.contents c.write_count.new.writer in
    let new = g.W.Write.contents c.write_records.new.writer in
    let rs = c.args.records in
    IfErr-weaker c.write_records.result _ _
    (λ f h. inl (rest_breaks_off old new (count_text (length rs) c.args.ending) (records_text 0 rs) f now (counted g (goal.at.returns-clause-err g c).In_ok-write_count) h))
    c.write_records.ensures.err
