use Rattle.workers.specs.Checkpoints.{enters, scans_on, waits, not_entered}
use Rattle.workers.proofs.Rounds.{advanced_as}
use Rattle.workers.proofs.checkpoints.move_on.Goals as goal

pub returns-in-Ok : goal.returns-in-Ok
returns-in-Ok g c = enters c.in-Ok.ensures c.work_in.ensures

pub returns-in-NotScanned : goal.returns-in-NotScanned
returns-in-NotScanned g c = scans_on (advanced_as g.C.Checkpoints.does c.in-NotScanned.is c.in-Err.ensures) c.work_in-in-NotScanned.ensures

pub returns-in-StillActive : goal.returns-in-StillActive
returns-in-StillActive g c = waits (advanced_as g.C.Checkpoints.does c.in-StillActive.is c.in-Err.ensures)

pub returns-in_default : goal.returns-in_default
returns-in_default g c = not_entered c.in_default.not-NotScanned c.in_default.not-StillActive c.in-Err.ensures
