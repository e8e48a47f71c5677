use Rattle.std.proofs.Common.{Err, refl, ap, ◌∙◌}
use Rattle.procedure.specs.Bytes.{Bytes}
use Rattle.commitlog.specs.StoredLogs.{checked_reading}
use Rattle.calcdb.specs.Showing.{PrintsLog, log_text, of_reading}
use Rattle.calcdb.proofs.Shown.{refused_ends, refused_log, shown_ends, shown_text, told_agrees}
use Rattle.calcdb.proofs.show.show_log.Goals as goal

pub returns-in-Ok-clause-text : goal.returns-in-Ok-clause-text
returns-in-Ok-clause-text g c =
    let text : Bytes = log_text c.in-Ok.log.records c.in-Ok.log.ending in
    shown_text (PrintsLog c.args.bytes.now) (g.W.Write.contents c.args.writer.now) (g.W.Write.contents c.write_log.new.writer) c.write_log.result text
    (checked_reading c.in-Ok.log, c.in-Ok.ensures.read, refl) c.write_log.ensures.ok

pub returns-in-Ok-clause-fault : goal.returns-in-Ok-clause-fault
returns-in-Ok-clause-fault g c =
    let text : Bytes = log_text c.in-Ok.log.records c.in-Ok.log.ending in
    shown_ends (PrintsLog c.args.bytes.now) (g.W.Write.contents c.args.writer.now) (g.W.Write.contents c.write_log.new.writer) c.write_log.result text
    (checked_reading c.in-Ok.log, c.in-Ok.ensures.read, refl) c.write_log.ensures.err

pub returns-in-Ok-clause-only : goal.returns-in-Ok-clause-only
returns-in-Ok-clause-only g c = λ says h.
    let text : Bytes = log_text c.in-Ok.log.records c.in-Ok.log.ending in
    told_agrees c.write_log.result says text (g.W.Write.contents c.args.writer.now) (g.W.Write.contents c.write_log.new.writer) (h.2 ∙ ap of_reading (c.in-Ok.ensures.only h.0 h.1))
    c.write_log.ensures.ok c.write_log.ensures.err

pub returns-in-Err-clause-fault : goal.returns-in-Err-clause-fault
returns-in-Err-clause-fault g c =
    refused_ends (PrintsLog c.args.bytes.now) (g.W.Write.contents c.args.writer.now) (g.W.Write.contents c.refuse.new.writer) c.from-reason.result c.refuse.result
    (rw c.from-reason.ensures (refused_log c.args.bytes.now c.in-Err.refused (λ is. c.in-Err.ensures.not_a_log (ap Err is)) (λ i is. c.in-Err.ensures.damaged i (ap Err is)))) c.refuse.ensures
