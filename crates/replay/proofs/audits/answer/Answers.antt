use Rattle.std.proofs.Common.{sym, ◌∙◌}
use Rattle.std.proofs.lemmas.Result.{err_from_is_err_and}
use Rattle.replay.specs.Audits.{IsAudit, OfLog}
use Rattle.replay.proofs.Answering.{from_log, from_no_log}
use Rattle.replay.proofs.Auditing.{is_audit, refusal_of}
use Rattle.replay.proofs.audits.answer.Goals as goal

pub returns-in_err-log-clause-audit : goal.returns-in_err-log-clause-audit
returns-in_err-log-clause-audit g c =
    let catalog = c.args.catalog.now in
    let opening = c.args.opening.now in
    let text = c.args.log_bytes.now in
    let p = err_from_is_err_and c.from_residual.result c.from_residual.ensures.1 in
    rw (p.1, p.2) (from_no_log refusal_of (OfLog catalog opening) text (IsAudit catalog opening text) (is_audit catalog opening text (sym c.is_opening.ensures ∙ c.if-not-is_opening.false))
    c.in_err-log.field-0.0 c.in_err-log.ensures.not_a_log c.in_err-log.ensures.damaged)

pub returns-clause-audit : goal.returns-clause-audit
returns-clause-audit g c =
    let catalog = c.args.catalog.now in
    let opening = c.args.opening.now in
    let text = c.args.log_bytes.now in
    let log = c.in_ok-log.log in
    from_log refusal_of (OfLog catalog opening) text (IsAudit catalog opening text) (is_audit catalog opening text (sym c.is_opening.ensures ∙ c.if-not-is_opening.false))
    log.version log.header log.records log.ending c.audit_log.result c.in_ok-log.ensures.read c.audit_log.ensures
