use Rattle.workers.proofs.Rounds.{captured_as, visited_on, scanned_now, refused_now, visited_out}
use Rattle.workers.proofs.checkpoints.scan.Goals as goal

pub loop-left-init : goal.loop-left-init
loop-left-init g c = λ u r e. e

pub loop-left-preserved : goal.loop-left-preserved
loop-left-preserved g c = λ u r e. c.loop-left.invariant u r (visited_on g.C.Checkpoints.does c.loop-left.left c.loop-left-test.true (captured_as g.C.Checkpoints.does c.in-Ok-Slot.field-0-is c.in-Ok-Slot.ensures) e)

pub returns-in-Ok-Done : goal.returns-in-Ok-Done
returns-in-Ok-Done g c = c.loop-left.invariant _ _ (scanned_now g.C.Checkpoints.does c.loop-left.left c.loop-left-test.true (captured_as g.C.Checkpoints.does c.in-Ok-Done.field-0-is c.in-Ok-Done.ensures))

pub returns-in-Err : goal.returns-in-Err
returns-in-Err g c = c.loop-left.invariant _ _ (refused_now g.C.Checkpoints.does c.loop-left.left c.loop-left-test.true c.in-Err.ensures)

pub returns : goal.returns
returns g c = c.loop-left.invariant _ _ (visited_out g.C.Checkpoints.does c.loop-left.left c.loop-left-test.false)
