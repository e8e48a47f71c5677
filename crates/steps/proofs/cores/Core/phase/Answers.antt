use Rattle.std.proofs.Common.{ap, ◌∙◌}
use Rattle.commitlog.specs.Histories.{phase_of}
use Rattle.steps.specs.CoreViews.{CoreView}
use Rattle.steps.proofs.views.CoreState.{phase_is, sessions_seen}
use Rattle.steps.proofs.cores.Core.phase.Goals as goal

pub returns-clause-value : goal.returns-clause-value
returns-clause-value g c = phase_is c.self.inside c.self.invariant ∙ ap (λ (v : CoreView). phase_of v.log) c.self.view_is

pub returns-clause-sessions : goal.returns-clause-sessions
returns-clause-sessions g c = sessions_seen c.self.inside c.self.invariant c.self.view_is
