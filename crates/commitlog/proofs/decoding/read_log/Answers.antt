use Rattle.commitlog.specs.StoredLogs.{reading_of}
use Rattle.commitlog.proofs.Begins.{tells, tells_damage, tells_no_log}
use Rattle.commitlog.proofs.decoding.read_log.Goals as goal

pub returns-clause-only : goal.returns-clause-only
returns-clause-only g c = λ r h. tells reading_of c.args.bytes.now c.read_whole.result r c.read_whole.ensures h

pub returns-clause-foreign : goal.returns-clause-foreign
returns-clause-foreign g c = tells_no_log c.args.bytes.now c.read_whole.result c.read_whole.ensures

pub returns-clause-damage : goal.returns-clause-damage
returns-clause-damage g c = λ i. tells_damage c.args.bytes.now c.read_whole.result i c.read_whole.ensures
