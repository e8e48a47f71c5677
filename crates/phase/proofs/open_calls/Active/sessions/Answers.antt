use Rattle.std.proofs.Common.{◌∙◌, sym, ap, length}
use Rattle.phase.specs.Phases.{Starts}
use Rattle.phase.proofs.open_calls.Active.sessions.Goals as goal

pub returns-clause-value : goal.returns-clause-value
returns-clause-value c = sym c.self.invariant.sessions ∙ ap (λ (xs : Starts). length xs) c.self.view_is
