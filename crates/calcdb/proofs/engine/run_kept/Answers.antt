use Rattle.std.proofs.Common.{◌≡◌, [], refl, sym, ◌∙◌, subst}
use Rattle.std.proofs.lemmas.Result.{IfErr-weaker, IfOk-weaker}
use Rattle.calcdb.specs.Journals.{LeavesJournal}
use Rattle.calcdb.specs.Outcomes.{EndsRun, RunsTo}
use Rattle.calcdb.specs.Scripts.{schedule_of}
use Rattle.calcdb.specs.declared.faults.Fault.TheVariants as fault
use Rattle.calcdb.specs.declared.faults.Reason.TheVariants.{NotAnOpening}
use Rattle.calcdb.specs.Commands.{command_of, with_more}
use Rattle.calcdb.proofs.Endings.{ends_refused}
use Rattle.calcdb.proofs.Keeping.{if_fault_weaker}
use Rattle.calcdb.proofs.TextReadings.{long_scripts, same_reading}
use Rattle.calcdb.proofs.engine.run_kept.Goals as goal

pub returns-then-not-is_opening-clause-fault : goal.returns-then-not-is_opening-clause-fault
returns-then-not-is_opening-clause-fault g c = λ source known.
    ends_refused g.row.A.Denot (schedule_of source) c.args.opening (g.W.Write.contents c.args.writer.now) (g.W.Write.contents c.write_fault.new.writer) (fault.Refused NotAnOpening) c.write_fault.result
    (sym c.is_opening.ensures ∙ c.if-not-is_opening.true, refl) c.write_fault.ensures

pub returns-clause-run : goal.returns-clause-run
returns-clause-run g c =
    IfOk-weaker c.run_text.result _ _
    (λ r h. (
      h.1,
      h.2,
      h.5,
      λ source known.
          let same = same_reading schedule_of (long_scripts (with_more command_of) []) (g.I.Read.remaining c.args.reader.now) (g.I.Read.remaining c.read_past.new.reader) source c.in-Ok.text.items known c.in-Ok.ensures.read c.in-Ok.ensures.end in
          (h.0, subst (λ says. RunsTo g.row.A.Denot says c.args.opening r.core h.0 h.1) (sym same) h.3, h.4),
    ))
    c.run_text.ensures.run

pub returns-clause-fault : goal.returns-clause-fault
returns-clause-fault g c =
    let old = g.W.Write.contents c.args.writer.now in
    let new = g.W.Write.contents c.run_text.new.writer in
    IfErr-weaker c.run_text.result _ _
    (λ s h. if_fault_weaker g.row.J-Failure.Denot _ _ s
    (λ f ends source known.
    let same = same_reading schedule_of (long_scripts (with_more command_of) []) (g.I.Read.remaining c.args.reader.now) (g.I.Read.remaining c.read_past.new.reader) source c.in-Ok.text.items known c.in-Ok.ensures.read c.in-Ok.ensures.end in
    subst (λ says. EndsRun g.row.A.Denot says c.args.opening old new f) (sym same) ends) h)
    c.run_text.ensures.fault

pub returns-clause-stopped : goal.returns-clause-stopped
returns-clause-stopped g c =
    let old = g.W.Write.contents c.args.writer.now in
    let new = g.W.Write.contents c.run_text.new.writer in
    let start = c.args.journal.now in
    let journal = c.run_text.new.journal in
    IfErr-weaker c.run_text.result _ _
    (λ s h source known.
    let same = same_reading schedule_of (long_scripts (with_more command_of) []) (g.I.Read.remaining c.args.reader.now) (g.I.Read.remaining c.read_past.new.reader) source c.in-Ok.text.items known c.in-Ok.ensures.read c.in-Ok.ensures.end in
    subst (λ says. LeavesJournal g.row.A.Denot says c.args.opening old new (journal ≡ start) (g.J.Journal.Has start journal) (g.J.Journal.HasFront start journal) s) (sym same) h)
    c.run_text.ensures.stopped
