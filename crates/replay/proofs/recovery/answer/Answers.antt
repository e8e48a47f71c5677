use Rattle.std.proofs.Common.{subst}
use Rattle.std.proofs.lemmas.Result.{err_from_is_err_and}
use Rattle.replay.specs.Parts.{Chained}
use Rattle.replay.specs.Recovery.{IsRecovery, OfLog}
use Rattle.replay.proofs.Answering.{from_log, from_no_log}
use Rattle.replay.proofs.Recovering.{is_recovery, refusal_of}
use Rattle.replay.proofs.recovery.answer.Goals as goal

pub returns-in_err-log-clause-answer : goal.returns-in_err-log-clause-answer
returns-in_err-log-clause-answer g c = λ images chained.
    let catalog = c.args.catalog.now in
    let text = c.args.log_bytes.now in
    let image = c.in_ok-image.image in
    let whole = subst (Chained images) c.in_ok-image.was chained in
    let p = err_from_is_err_and c.from_residual-in_err-log.result c.from_residual-in_err-log.ensures.1 in
    rw (p.1, p.2) (from_no_log refusal_of (OfLog catalog image) text (IsRecovery catalog images text) (is_recovery catalog images text image whole)
    c.in_err-log.field-0.0 c.in_err-log.ensures.not_a_log c.in_err-log.ensures.damaged)

pub returns-clause-answer : goal.returns-clause-answer
returns-clause-answer g c = λ images chained.
    let catalog = c.args.catalog.now in
    let text = c.args.log_bytes.now in
    let image = c.in_ok-image.image in
    let whole = subst (Chained images) c.in_ok-image.was chained in
    let log = c.in_ok-log.log in
    from_log refusal_of (OfLog catalog image) text (IsRecovery catalog images text) (is_recovery catalog images text image whole)
    log.version log.header log.records log.ending c.recover_log.result c.in_ok-log.ensures.read c.recover_log.ensures.answer
