use Rattle.std.proofs.Common.{◌≡◌}
use Rattle.std.proofs.lemmas.Result.{IfErr-weaker, IfOk-weaker}
use Rattle.calcdb.specs.Scripts.{schedule_of}
use Rattle.calcdb.proofs.Endings.{ends_script}
use Rattle.calcdb.proofs.FailedReads.{in_run, refusing_script}
use Rattle.calcdb.proofs.Keeping.{fault_ends, leaves}
use Rattle.calcdb.proofs.TextReadings.{read_as, refused_as}
use Rattle.calcdb.proofs.engine.run_text.Goals as goal

pub returns-in-Ok-clause-run : goal.returns-in-Ok-clause-run
returns-in-Ok-clause-run g c =
    let reads = read_as schedule_of c.args.text.items c.as_slice.result.now c.read_schedule-read.result c.in-Ok.script c.as_slice.ensures.value c.in-Ok.is c.read_schedule-read.ensures in
    IfOk-weaker c.run_opened.result _ _
    (λ r h. (h.1, h.2, h.4, record { lawful = c.requires.opening; script = c.in-Ok.script; reads = reads; first = h.0; opened = h.3; carried = h.5 }, h.6, h.7)) c.run_opened.ensures.ok

pub returns-in-Ok-clause-fault : goal.returns-in-Ok-clause-fault
returns-in-Ok-clause-fault g c =
    let reads = read_as schedule_of c.args.text.items c.as_slice.result.now c.read_schedule-read.result c.in-Ok.script c.as_slice.ensures.value c.in-Ok.is c.read_schedule-read.ensures in
    let old = g.W.Write.contents c.args.writer.now in
    let new = g.W.Write.contents c.run_opened.new.writer in
    let start = c.args.journal.now in
    let journal = c.run_opened.new.journal in
    IfErr-weaker c.run_opened.result _ _
    (λ s h. fault_ends g.row.A.Denot g.row.J-Failure.Denot old new (g.J.Journal.Has start journal) (g.J.Journal.HasFront start journal) c.args.opening (schedule_of c.args.text.items) c.in-Ok.script (journal ≡ start) s c.requires.opening reads h)
    c.run_opened.ensures.err

pub returns-in-Ok-clause-stopped : goal.returns-in-Ok-clause-stopped
returns-in-Ok-clause-stopped g c =
    let reads = read_as schedule_of c.args.text.items c.as_slice.result.now c.read_schedule-read.result c.in-Ok.script c.as_slice.ensures.value c.in-Ok.is c.read_schedule-read.ensures in
    let old = g.W.Write.contents c.args.writer.now in
    let new = g.W.Write.contents c.run_opened.new.writer in
    let start = c.args.journal.now in
    let journal = c.run_opened.new.journal in
    IfErr-weaker c.run_opened.result _ _
    (λ s h. leaves g.row.A.Denot g.row.J-Failure.Denot old new (g.J.Journal.Has start journal) (g.J.Journal.HasFront start journal) c.args.opening (schedule_of c.args.text.items) c.in-Ok.script (journal ≡ start) s reads h)
    c.run_opened.ensures.err

pub returns-in-Err-clause-fault : goal.returns-in-Err-clause-fault
returns-in-Err-clause-fault g c =
    let reads = refused_as schedule_of c.args.text.items c.as_slice.result.now c.read_schedule-read.result c.in-Err.fault c.as_slice.ensures.value c.in-Err.is c.read_schedule-read.ensures in
    ends_script g.row.A.Denot (schedule_of c.args.text.items) c.args.opening (g.W.Write.contents c.args.writer.now) (g.W.Write.contents c.refuse_script.new.writer) c.in-Err.fault c.refuse_script.result
    c.requires.opening reads c.refuse_script.ensures

pub returns-in-Ok-clause-unread : goal.returns-in-Ok-clause-unread
returns-in-Ok-clause-unread g c =
    let old = g.W.Write.contents c.args.writer.now in
    let new = g.W.Write.contents c.run_opened.new.writer in
    let start = c.args.journal.now in
    let journal = c.run_opened.new.journal in
    IfErr-weaker c.run_opened.result _ _
    (λ s h. in_run g.row.A.Denot g.row.J-Failure.Denot old new (g.J.Journal.Has start journal) (g.J.Journal.HasFront start journal) c.in-Ok.script c.args.opening (journal ≡ start) s h)
    c.run_opened.ensures.err

pub returns-in-Err-clause-unread : goal.returns-in-Err-clause-unread
returns-in-Err-clause-unread g c =
    refusing_script (g.W.Write.contents c.args.writer.now) (g.W.Write.contents c.refuse_script.new.writer) c.in-Err.fault c.refuse_script.result c.refuse_script.ensures
