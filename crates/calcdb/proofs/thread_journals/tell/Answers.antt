use Rattle.std.proofs.Common.{sym, ◌∙◌}
use Rattle.calcdb.specs.Journals.{images_given}
use Rattle.calcdb.proofs.ThreadJournals.{told_all, told_front, told_had}
use Rattle.calcdb.proofs.thread_journals.tell.Goals as goal

pub returns-then-is_some : goal.returns-then-is_some
returns-then-is_some g c = λ start t h.
    told_had g.J.Journal.Has g.J.Journal.HasFront start c.args.journal.now c.args.failure.now t c.args.records.now (images_given c.args.image) (sym c.is_some.ensures ∙ c.if-is_some.true) h

pub returns-in-Err : goal.returns-in-Err
returns-in-Err g c = λ start t h.
    told_front g.J.Journal.Has g.J.Journal.HasFront start c.take.new.self c.in-Err.refused t c.args.records.now (images_given c.args.image)
    (c.in-Err.ensures.err start t (told_all g.J.Journal.Has g.J.Journal.HasFront start c.args.journal.now c.args.failure.now t (sym c.is_some.ensures ∙ c.if-is_some.false) h))
