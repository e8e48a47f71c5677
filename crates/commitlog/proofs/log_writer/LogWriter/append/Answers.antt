use Rattle.std.proofs.Common.{subst, ap, ◌∙◌}
use Rattle.commitlog.specs.LogBytes.{next_digest, record_bytes}
use Rattle.commitlog.specs.LogWriters.{Sent}
use Rattle.commitlog.specs.Pieces.{Sends}
use Rattle.commitlog.proofs.Sending.{begins_one_more, one_more}
use Rattle.commitlog.proofs.log_writer.LogWriter.append.Goals as goal

pub returns-then-self-clause-err : goal.returns-then-self-clause-err
returns-then-self-clause-err g c = λ start h rs was.
    let new = c.send_record-digest.new.self in
    let r = c.args.record.now in
    begins_one_more start c.args.self.now _ h rs r was
    (subst (λ (s : Sent). Sends s.bytes (g.W.Write.contents new.writer) s.is_faulty new.is_faulty (record_bytes s.digest r)) c.self.view_is c.send_record-digest.ensures.sent)
    c.if-self.true

pub returns-clause-ok : goal.returns-clause-ok
returns-clause-ok g c = λ start h rs was.
    let new = c.send_record-digest.new.self in
    let r = c.args.record.now in
    one_more start c.args.self.now _ h rs r was
    (subst (λ (s : Sent). Sends s.bytes (g.W.Write.contents new.writer) s.is_faulty new.is_faulty (record_bytes s.digest r)) c.self.view_is c.send_record-digest.ensures.sent)
    (c.send_record-digest.ensures.digest ∙ ap (λ (s : Sent). next_digest s.digest r) c.self.view_is)
    c.if-self.false
