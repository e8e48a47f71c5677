use Rattle.workers.specs.Checkpoints.{GoesOn}
use Rattle.workers.proofs.Rounds.{moved_as, moved_on, moved_out, refused_as, stood, stood_refused}
use Rattle.workers.proofs.checkpoints.go_on.Goals as goal

pub loop-left-init : goal.loop-left-init
loop-left-init g c = λ u r e. e

pub returns-in_err-reached : goal.returns-in_err-reached
returns-in_err-reached g c = c.loop-left.invariant _ _ (refused_as (λ r. GoesOn g.C.Checkpoints.does c.loop-left.left c.loop-left.core c.move_on.new.core r) c.from_residual.result c.from_residual.ensures.1 (stood_refused g.C.Checkpoints.does c.loop-left.left c.loop-left-test.true c.in_err-reached.ensures))

pub loop-left-preserved : goal.loop-left-preserved
loop-left-preserved g c = λ u r e. c.loop-left.invariant u r (moved_on g.C.Checkpoints.does c.loop-left.left c.loop-left-test.true (moved_as g.C.Checkpoints.does c.in-Next.is c.in_ok-reached.ensures) e)

pub returns-in_default : goal.returns-in_default
returns-in_default g c = c.loop-left.invariant _ _ (stood g.C.Checkpoints.does c.loop-left.left c.loop-left-test.true c.in_default.not-Next c.in_ok-reached.ensures)

pub returns : goal.returns
returns g c = c.loop-left.invariant _ _ (moved_out g.C.Checkpoints.does c.loop-left.left c.loop-left-test.false)
