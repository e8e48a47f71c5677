use Rattle.std.proofs.Common.{◌≡◌, ◌+◌, ◌++◌, List, [], ◌∷◌, take, drop, sym, ap, subst, ◌∙◌}
use Rattle.std.proofs.KnownBytes.{Appends-trans}
use Rattle.std.proofs.lemmas.List.{take_more}
use Rattle.std.proofs.lemmas.Result.{err_from_is_err_and}
use base.Growing.{prefix_trans}
use Rattle.procedure.specs.Bytes.{Bytes}
use Rattle.calcdb.specs.ThreadRuns.{ShowsEach}
use Rattle.calcdb.proofs.CarryingOn.{sent_after}
use Rattle.calcdb.proofs.ThreadEnds.{parts_at, shows_less, shows_more}
use Rattle.calcdb.proofs.threads.look_each.Goals as goal

pub returns-in_err-reader-clause-err : goal.returns-in_err-reader-clause-err
returns-in_err-reader-clause-err g c =
    let l = c.loop-key in
    let i = l.invariant in
    let x = c.key-item.result in
    let all = c.args.keys.now in
    let told = c.args.reader.seen in
    let h = c.in_err-reader.ensures.err in
    let p = err_from_is_err_and c.from_residual.result c.from_residual.ensures.1 in
    let shows = shows_more told (take l.key-index all) x i.text h.0 i.shows (shows_less told l.reader.seen (x ∷ []) h.0 i.later h.1) in
    let sent = sent_after c.in_err-reader.field-0.0 (g.W.Write.contents c.args.writer.now) (g.W.Write.contents l.writer) (g.W.Write.contents c.look_at.new.writer) i.text h.0 i.sent h.2 in
    rw (p.1, p.2) (take l.key-index all ++ x ∷ [], drop (l.key-index + 1) all, parts_at all l.key-index x c.loop-key-test.true c.key-item.is, i.text ++ h.0, shows, sent)

pub loop-key-preserved : goal.loop-key-preserved
loop-key-preserved g c =
    let l = c.loop-key in
    let i = l.invariant in
    let x = c.key-item.result in
    let all = c.args.keys.now in
    let told = c.args.reader.seen in
    let h = c.in_ok-reader.ensures.ok in
    let taken : take (l.key-index + 1) all ≡ take l.key-index all ++ x ∷ [] =
    take_more all l.key-index x c.loop-key-test.true ∙ ap (λ (y : Bytes). take l.key-index all ++ y ∷ []) (sym c.key-item.is) in
    let shows = shows_more told (take l.key-index all) x i.text h.1.0 i.shows (shows_less told l.reader.seen (x ∷ []) h.1.0 i.later h.1.1) in
    record {
      text = i.text ++ h.1.0;
      shows = subst (λ (ks : List Bytes). ShowsEach told ks (i.text ++ h.1.0)) (sym taken) shows;
      sent = Appends-trans (g.W.Write.contents c.args.writer.now) (g.W.Write.contents l.writer) (g.W.Write.contents c.look_at.new.writer) i.text h.1.0 i.sent h.1.2;
      later = prefix_trans told l.reader.seen c.in_ok-reader.reader.seen i.later h.0;
    }
