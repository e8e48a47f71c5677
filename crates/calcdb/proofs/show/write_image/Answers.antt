use Rattle.std.proofs.Common.{List, inl, subst}
use Rattle.std.proofs.lemmas.Result.{IfErr-weaker, err_from_is_err_and}
use Rattle.image.specs.Images.{Entry}
use Rattle.calcdb.specs.Output.{entries_text, header_line}
use Rattle.calcdb.specs.Showing.{BreaksOff}
use Rattle.calcdb.proofs.Shown.{front_stops, rest_breaks_off}
use Rattle.calcdb.proofs.show.write_image.Goals as goal

pub returns-in_err-write_checked_header-clause-err : goal.returns-in_err-write_checked_header-clause-err
returns-in_err-write_checked_header-clause-err g c =
    let i = c.args.image.now in
    let p = err_from_is_err_and c.from_residual.result c.from_residual.ensures.1 in
    rw (p.1, p.2)
    (front_stops (g.W.Write.contents c.args.writer.now) (g.W.Write.contents c.write_checked_header.new.writer) (header_line i) (entries_text i.entries) c.in_err-write_checked_header.field-0.0
    c.in_err-write_checked_header.ensures.err)

pub returns-clause-err : goal.returns-clause-err
returns-clause-err g c =
    let now = g.W.Write.contents c.write_checked_header.new.writer in
    let new = g.W.Write.contents c.write_stored_entries.new.writer in
    let i = c.args.image.now in
    IfErr-weaker c.write_stored_entries.result _ _
    (λ f h. inl (rest_breaks_off (g.W.Write.contents c.args.writer.now) new (header_line i) (entries_text i.entries) f now c.in_ok-write_checked_header.ensures.ok
    (subst (λ (es : List Entry). BreaksOff (entries_text es) now new f) c.entries.ensures h)))
    c.write_stored_entries.ensures.err
