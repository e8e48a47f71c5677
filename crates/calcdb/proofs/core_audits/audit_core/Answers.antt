use Rattle.std.proofs.Common.{inr, Err, ap, ◌∙◌}
use Rattle.std.proofs.lemmas.Result.{err_from_is_err_and}
use Rattle.calcdb.proofs.CoreLogs.{only_memory, passes}
use Rattle.calcdb.proofs.core_audits.audit_core.Goals as goal

pub returns-in_err-_audited : goal.returns-in_err-_audited
returns-in_err-_audited g c =
    let p = err_from_is_err_and c.from_residual-in_err-_audited.result c.from_residual-in_err-_audited.ensures.1 in
    let core = c.args.core.now in
    let h = c.in_ok-header in
    let r = c.records.ensures in
    let found = passes core c.catalog.result.now c.opening.result.now c.records.result.now h.header c.as_slice.result.now c.audit.result c.catalog.ensures c.opening.ensures.value r.value
    c.recovery_law.ensures.history h.ensures.catalog h.ensures.opening h.ensures.lengths r.orderly r.most c.in_ok-log.ensures.fits (c.as_slice.ensures ∙ c.in_ok-log.ensures.bytes) c.audit.ensures.fronts in
    inr (p.1 ∙ ap Err (p.2 ∙ only_memory c.audit.result c.in_err-_audited.field-0.0 found c.in_err-_audited.was))
