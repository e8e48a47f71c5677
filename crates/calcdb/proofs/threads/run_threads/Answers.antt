use Rattle.std.proofs.Common.{◌≡◌, inl, inr, refl, sym, ◌∙◌, subst, []}
use Rattle.std.specs.Prelude.{is_none}
use Rattle.std.specs.Io.KnownBytes.{Appends}
use Rattle.calcdb.specs.Journals.{LeavesUnrun}
use Rattle.calcdb.specs.ThreadRuns.{StopsWith}
use Rattle.std.proofs.lemmas.Result.{IfErr-weaker, IfOk-weaker}
use Rattle.calcdb.specs.ThreadOutcomes.{NotCarriedOut, RunsToEnd}
use Rattle.calcdb.specs.Scripts.{thread_script_of}
use Rattle.calcdb.specs.declared.faults.Fault.TheVariants as fault
use Rattle.calcdb.specs.declared.faults.Reason.TheVariants.{NotAnOpening}
use Rattle.calcdb.specs.Commands.{with_more}
use Rattle.calcdb.specs.ThreadCommands.{thread_command_of}
use Rattle.calcdb.proofs.TextReadings.{long_scripts, same_reading}
use Rattle.calcdb.proofs.threads.run_threads.Goals as goal

pub returns-then-not-is_opening-clause-fault : goal.returns-then-not-is_opening-clause-fault
returns-then-not-is_opening-clause-fault g c = λ source known.
    inr (fault.Refused NotAnOpening, inl (sym c.is_opening.ensures ∙ c.if-not-is_opening.true, refl), c.write_fault.ensures)

pub returns-clause-run : goal.returns-clause-run
returns-clause-run g c =
    IfOk-weaker c.run_text.result _ _
    (λ r h source known.
    let same = same_reading thread_script_of (long_scripts (with_more thread_command_of) []) (g.I.Read.remaining c.args.reader.now) (g.I.Read.remaining c.read_past.new.reader) source c.in-Ok.text.items known c.in-Ok.ensures.read c.in-Ok.ensures.end in
    subst (λ says. RunsToEnd (is_none r.failure) says c.args.opening r.ran.core r.ran.images.items (g.W.Write.contents c.args.writer.now) (g.W.Write.contents c.run_text.new.writer) r.written) (sym same) h)
    c.run_text.ensures.run

pub returns-clause-left : goal.returns-clause-left
returns-clause-left g c =
    IfErr-weaker c.run_text.result _ _
    (λ e h source known.
    let same = same_reading thread_script_of (long_scripts (with_more thread_command_of) []) (g.I.Read.remaining c.args.reader.now) (g.I.Read.remaining c.read_past.new.reader) source c.in-Ok.text.items known c.in-Ok.ensures.read c.in-Ok.ensures.end in
    subst (λ says. ∥ LeavesUnrun says c.args.opening (e.1 ≡ c.args.journal) (g.N.Journal.Has c.args.journal e.1) (g.N.Journal.HasFront c.args.journal e.1) e.0 ∥₁) (sym same) h)
    c.run_text.ensures.left

pub returns-clause-fault : goal.returns-clause-fault
returns-clause-fault g c =
    let old = g.W.Write.contents c.args.writer.now in
    let new = g.W.Write.contents c.run_text.new.writer in
    IfErr-weaker c.run_text.result _ _
    (λ e h source known.
    let same = same_reading thread_script_of (long_scripts (with_more thread_command_of) []) (g.I.Read.remaining c.args.reader.now) (g.I.Read.remaining c.read_past.new.reader) source c.in-Ok.text.items known c.in-Ok.ensures.read c.in-Ok.ensures.end in
    subst (λ says. StopsWith (NotCarriedOut says c.args.opening old new) (Appends old new []) e.0) (sym same) h)
    c.run_text.ensures.fault
