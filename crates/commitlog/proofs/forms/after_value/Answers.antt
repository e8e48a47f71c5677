use Rattle.std.proofs.Common.{rules}
use Rattle.commitlog.specs.BodyReading.{value_in}
use Rattle.commitlog.proofs.forms.after_value.Goals as goal

pub returns : goal.returns
unfolding value_in
returns c = (c.split_at.result.0.now, search rules)
