use Rattle.workers.proofs.Rounds.{made_all, made_as, made_one, out_at, refused_at}
use Rattle.workers.proofs.checkpoints.make_checkpoints.Goals as goal

pub loop-i-init : goal.loop-i-init
loop-i-init g c = λ u p e. e

pub returns-in-Ok-false-clause-made : goal.returns-in-Ok-false-clause-made
returns-in-Ok-false-clause-made g c = c.loop-i.invariant _ _ (out_at g.C.Checkpoints.does c.args.kinds.now c.loop-i.i _ c.loop-i-test.true (made_as g.C.Checkpoints.does c.in-Ok-false.field-0-test c.in-Ok-false.ensures))

pub returns-in-Err-clause-made : goal.returns-in-Err-clause-made
returns-in-Err-clause-made g c = c.loop-i.invariant _ _ (refused_at g.C.Checkpoints.does c.args.kinds.now c.loop-i.i _ c.loop-i-test.true c.in-Err.ensures)

pub loop-i-preserved : goal.loop-i-preserved
loop-i-preserved g c = λ u p e. c.loop-i.invariant u p (made_one g.C.Checkpoints.does c.args.kinds.now c.loop-i.i _ c.loop-i-test.true (made_as g.C.Checkpoints.does c.in-Ok-true.field-0-test c.in-Ok-true.ensures) e)

pub returns-clause-made : goal.returns-clause-made
returns-clause-made g c = c.loop-i.invariant _ _ (made_all g.C.Checkpoints.does c.args.kinds.now c.loop-i.i c.loop-i-test.false)
