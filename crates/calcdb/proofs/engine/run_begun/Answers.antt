use Rattle.std.proofs.Common.{inl}
use Rattle.std.proofs.KnownBytes.{Appends-nil}
use Rattle.std.proofs.lemmas.Result.{IfErr-weaker, IfOk-weaker}
use Rattle.calcdb.proofs.Keeping.{stops_begun}
use Rattle.calcdb.proofs.engine.run_begun.Goals as goal

pub returns-in-Ok-clause-ok : goal.returns-in-Ok-clause-ok
returns-in-Ok-clause-ok g c =
    IfOk-weaker c.run_on.result _ _
    (λ r h. (h.0, h.1, h.2, h.3, h.4, h.5 c.args.journal.now (c.in-Ok.ensures.ok c.requires.log))) c.run_on.ensures.ok

pub returns-in-Ok-clause-err : goal.returns-in-Ok-clause-err
returns-in-Ok-clause-err g c =
    let start = c.args.journal.now in
    let journal = c.run_on.new.journal in
    IfErr-weaker c.run_on.result _ _
    (λ s h. stops_begun g.row.A.Denot g.row.J-Failure.Denot (g.W.Write.contents c.args.writer.now) (g.W.Write.contents c.run_on.new.writer) (g.J.Journal.Has start journal) (g.J.Journal.HasFront start journal)
    c.args.core c.args.commands h.0 s h.1)
    (c.run_on.ensures.err start (c.in-Ok.ensures.ok c.requires.log))

pub returns-in-Err-clause-err : goal.returns-in-Err-clause-err
returns-in-Err-clause-err g c = inl (Appends-nil (g.W.Write.contents c.args.writer.now), c.in-Err.ensures.err)
