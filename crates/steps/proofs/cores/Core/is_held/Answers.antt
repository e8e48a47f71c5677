use Rattle.std.proofs.Common.{◌∙◌}
use Rattle.steps.proofs.phases.PhaseEnds.{held_as}
use Rattle.steps.proofs.cores.Core.is_held.Goals as goal

pub returns : goal.returns
returns g c = c.is_err.ensures.value ∙ held_as c.self.inside c.self.invariant c.args.self.now c.self.view_is c.may_leave.result c.may_leave.ensures
