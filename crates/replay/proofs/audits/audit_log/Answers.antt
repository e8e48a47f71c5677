use Rattle.replay.proofs.Auditing.{audits_of_log}
use Rattle.replay.proofs.audits.audit_log.Goals as goal

pub returns : goal.returns
returns g c =
    let log = c.args.log in
    audits_of_log c.args.catalog.now c.args.opening.now log.version log.header log.records log.ending c.in_ok-check_header.ensures.ok c.in_ok-table.table c.is_torn-torn.result
    c.audit_records.result c.in_ok-table.ensures c.is_torn-torn.ensures c.audit_records.ensures
