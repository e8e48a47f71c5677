use Rattle.std.proofs.Common.{◌≡◌, sym, subst}
use Rattle.std.proofs.lemmas.Result.{IfErr-weaker}
use mathlib.Core.Logic.{∥∥₁_map}
use Rattle.calcdb.specs.Journals.{LeavesUnrun}
use Rattle.calcdb.specs.ThreadOutcomes.{NotCarriedOut}
use Rattle.calcdb.specs.Scripts.{thread_script_of}
use Rattle.calcdb.proofs.FailedReads.{in_threads, refusing_script}
use Rattle.calcdb.proofs.ThreadEnds.{ok_with}
use Rattle.calcdb.proofs.ThreadEndings.{ends_run, ends_script, stops_if_fault, stops_so}
use Rattle.calcdb.proofs.TextReadings.{read_as, refused_as}
use Rattle.calcdb.proofs.threads.run_text.Goals as goal

pub returns-in-Ok-clause-run : goal.returns-in-Ok-clause-run
returns-in-Ok-clause-run g c =
    let reads = read_as thread_script_of c.args.text.items c.as_slice.result.now c.read_thread_script-read.result c.in-Ok.script c.as_slice.ensures.value c.in-Ok.is c.read_thread_script-read.ensures in
    ok_with c.run_opened.result _ _ _ (λ r h from. record { lawful = c.requires; script = c.in-Ok.script; reads = reads; origin = from; writes = h })
    c.run_opened.ensures.written c.run_opened.ensures.origin

pub returns-in-Ok-clause-left : goal.returns-in-Ok-clause-left
returns-in-Ok-clause-left g c =
    let reads = read_as thread_script_of c.args.text.items c.as_slice.result.now c.read_thread_script-read.result c.in-Ok.script c.as_slice.ensures.value c.in-Ok.is c.read_thread_script-read.ensures in
    IfErr-weaker c.run_opened.result _ _
    (λ e h. ∥∥₁_map h (λ left. subst (λ says. LeavesUnrun says c.args.opening (e.1 ≡ c.args.journal) (g.N.Journal.Has c.args.journal e.1) (g.N.Journal.HasFront c.args.journal e.1) e.0) (sym reads) left))
    c.run_opened.ensures.left

pub returns-in-Ok-clause-fault : goal.returns-in-Ok-clause-fault
returns-in-Ok-clause-fault g c =
    let reads = read_as thread_script_of c.args.text.items c.as_slice.result.now c.read_thread_script-read.result c.in-Ok.script c.as_slice.ensures.value c.in-Ok.is c.read_thread_script-read.ensures in
    let old = g.W.Write.contents c.args.writer.now in
    let new = g.W.Write.contents c.run_opened.new.writer in
    IfErr-weaker c.run_opened.result _ _
    (λ e h. stops_so _ (NotCarriedOut (thread_script_of c.args.text.items) c.args.opening old new) e.0 (λ f h. ends_run (thread_script_of c.args.text.items) c.args.opening old new c.in-Ok.script f c.requires reads h) (λ u. u) h)
    c.run_opened.ensures.err

pub returns-in-Err-clause-fault : goal.returns-in-Err-clause-fault
returns-in-Err-clause-fault g c =
    let reads = refused_as thread_script_of c.args.text.items c.as_slice.result.now c.read_thread_script-read.result c.in-Err.fault c.as_slice.ensures.value c.in-Err.is c.read_thread_script-read.ensures in
    ends_script (thread_script_of c.args.text.items) c.args.opening (g.W.Write.contents c.args.writer.now) (g.W.Write.contents c.refuse_script.new.writer) c.in-Err.fault c.refuse_script.result
    c.requires reads c.refuse_script.ensures

pub returns-in-Ok-clause-unread : goal.returns-in-Ok-clause-unread
returns-in-Ok-clause-unread g c =
    IfErr-weaker c.run_opened.result _ _
    (λ e h. stops_if_fault _ _ _ e.0 (λ f h. in_threads (g.W.Write.contents c.args.writer.now) (g.W.Write.contents c.run_opened.new.writer) f h) h) c.run_opened.ensures.err

pub returns-in-Err-clause-unread : goal.returns-in-Err-clause-unread
returns-in-Err-clause-unread g c =
    refusing_script (g.W.Write.contents c.args.writer.now) (g.W.Write.contents c.refuse_script.new.writer) c.in-Err.fault c.refuse_script.result c.refuse_script.ensures
