use Rattle.commitlog.proofs.Passing.{all_passed, stops_short}
use Rattle.commitlog.proofs.forms.after_values.Goals as goal

pub returns-in_err-rest : goal.returns-in_err-rest
returns-in_err-rest c = stops_short _ _ _ _ _ _ _ _ c.from_residual.ensures.1 c.loop-test.true c.in_err-rest.ensures c.loop.invariant

pub returns : goal.returns
returns c = all_passed _ _ _ _ _ c.loop-test.false c.loop.auto.counter-end c.loop.invariant
