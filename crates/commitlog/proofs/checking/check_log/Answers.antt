use Rattle.commitlog.specs.StoredLogs.{checked_reading}
use Rattle.commitlog.proofs.Begins.{tells}
use Rattle.commitlog.proofs.checking.check_log.Goals as goal

pub returns-clause-only : goal.returns-clause-only
returns-clause-only c = λ r h. tells checked_reading c.args.bytes.now c.check_whole.result r c.check_whole.ensures.answer h
