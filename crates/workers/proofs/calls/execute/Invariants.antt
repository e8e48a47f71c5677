use Rattle.std.proofs.Common.{◌+◌}
use Rattle.std.specs.declared.result.Result.{Result}
use Rattle.steps.specs.declared.errors.StepError.{StepError}
use Rattle.procedure.specs.declared.limits.TheConstants.{INSTRUCTIONS}
use Rattle.workers.specs.Sessions.{Executes}
use Rattle.workers.proofs.calls.execute.Given as goal

-- what comes of the steps that are left comes of all
abbrev pub invariant-loop-left : goal.invariant-loop-left
invariant-loop-left g l = (u : _) (r : Result (Unit {0}) StepError) → Executes g.S.Session.does l.left l.session u r → Executes g.S.Session.does (INSTRUCTIONS + 1) l.fn.session u r

abbrev pub decreases-loop-left : goal.decreases-loop-left
decreases-loop-left g l = l.left
