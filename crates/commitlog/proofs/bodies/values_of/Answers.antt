use Rattle.commitlog.specs.LogBytes.{greatest_value}
use Rattle.commitlog.specs.BodyReading.{value_in}
use Rattle.commitlog.proofs.Manys.{goes_on, is_done}
use Rattle.commitlog.proofs.bodies.values_of.Goals as goal

pub loop-preserved : goal.loop-preserved
loop-preserved g c = rw c.in_ok-push.ensures.items (goes_on (value_in (greatest_value c.args.version)) _ _ _ _ _ _ _ c.loop-test.true c.in_ok-value.ensures.value c.loop.invariant)

pub returns : goal.returns
returns g c = is_done (value_in (greatest_value c.args.version)) _ _ _ _ _ c.loop-test.false c.loop.invariant
