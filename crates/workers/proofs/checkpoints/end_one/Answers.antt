use Rattle.workers.specs.Checkpoints.{Ends}
use Rattle.workers.proofs.Rounds.{gone_as, no_turn_left, once_again, refused_as, rested_now, stopped_now}
use Rattle.workers.proofs.checkpoints.end_one.Goals as goal

pub loop-left-init : goal.loop-left-init
loop-left-init g c = λ m u r e. e

pub returns-in_err-go_on : goal.returns-in_err-go_on
returns-in_err-go_on g c = c.loop-left.invariant _ _ _ (refused_as (λ r. Ends g.C.Checkpoints.does c.loop-left.left c.loop-left.left c.loop-left.core c.go_on.new.core r) c.from_residual.result c.from_residual.ensures.1 (stopped_now g.C.Checkpoints.does c.loop-left.left c.loop-left-test.true c.in_err-go_on.ensures))

pub returns-in-Rest : goal.returns-in-Rest
returns-in-Rest g c = c.loop-left.invariant _ _ _ (rested_now g.C.Checkpoints.does c.loop-left.left c.loop-left-test.true (gone_as g.C.Checkpoints.does c.in-Rest.is c.in_ok-go_on.ensures))

pub loop-left-preserved : goal.loop-left-preserved
loop-left-preserved g c = λ m u r e. c.loop-left.invariant m u r (once_again g.C.Checkpoints.does c.loop-left.left m c.loop-left-test.true c.in_default.not-Rest c.in_ok-go_on.ensures e)

pub returns : goal.returns
returns g c = c.loop-left.invariant _ _ _ (no_turn_left g.C.Checkpoints.does c.loop-left.left c.loop-left-test.false)
