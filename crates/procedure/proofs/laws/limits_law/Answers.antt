use Rattle.procedure.proofs.Bounds.{keeps_limits}
use Rattle.procedure.proofs.laws.limits_law.Goals as goal

pub returns : goal.returns
returns c = keeps_limits
