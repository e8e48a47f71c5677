use Rattle.std.proofs.Common.{◌≡◌, ◌++◌, [], refl, sym, ap, ◌∙◌}
use Rattle.std.proofs.KnownBytes.{Appends-nil}
use Rattle.procedure.specs.Bytes.{Bytes}
use Rattle.calcdb.specs.ThreadRuns.{view_text}
use Rattle.calcdb.proofs.ThreadEnds.{one_shown}
use Rattle.calcdb.proofs.threads.look_at.Goals as goal

pub returns-in-Err-clause-err : goal.returns-in-Err-clause-err
returns-in-Err-clause-err g c =
    let k = c.args.key.now in
    let seen = c.look-later.result.0.seen in
    let f = c.look-later.result.1 in
    (view_text k f, one_shown c.args.reader.seen seen k f c.look-later.ensures.later c.look-later.ensures.found, ([], view_text k f, refl, Appends-nil (g.W.Write.contents c.args.writer.now)))

pub returns-in-Err-write_out-clause-err : goal.returns-in-Err-write_out-clause-err
returns-in-Err-write_out-clause-err g c =
    let k = c.args.key.now in
    let seen = c.look-later.result.0.seen in
    let f = c.look-later.result.1 in
    let begun = c.in-Err-write_out.ensures.err in
    let is : c.as_slice.result.now ≡ view_text k f =
    c.as_slice.ensures.value ∙ c.in-Ok.ensures ∙ ap (λ (l : Bytes). l ++ view_text c.as_bytes.result.now f) c.clear.ensures.items ∙ ap (λ (b : Bytes). view_text b f) c.as_bytes.ensures.value in
    (view_text k f, one_shown c.args.reader.seen seen k f c.look-later.ensures.later c.look-later.ensures.found, (begun.0, begun.1, sym is ∙ begun.2, begun.3))
