use Rattle.replay.proofs.Auditing.{or_no_memory}
use Rattle.replay.proofs.Passing.{fronts_pass, one_history}
use Rattle.replay.proofs.audits.audit.Goals as goal

pub returns-clause-history : goal.returns-clause-history
returns-clause-history g c = one_history c.args.catalog.now c.args.opening.now c.args.log_bytes.now c.answer.result c.answer.ensures.audit

pub returns-clause-fronts : goal.returns-clause-fronts
returns-clause-fronts g c = fronts_pass c.args.catalog.now c.args.opening.now c.args.log_bytes.now c.answer.result c.answer.ensures.audit

pub returns-clause-only : goal.returns-clause-only
returns-clause-only g c = λ r is. or_no_memory c.args.catalog.now c.args.opening.now c.args.log_bytes.now c.answer.result r c.answer.ensures.audit is
