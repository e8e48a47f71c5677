use Rattle.steps.specs.Schedules.{VisitsAs}
use Rattle.workers.proofs.CoreGrowth.{visits}
use Rattle.workers.proofs.Growth.{adds_none, cuts_keep}
use Rattle.workers.proofs.checkpointed.Checkpointed.capture.Goals as goal
use Rattle.workers.proofs.checkpointed.Checkpointed.capture.Goals.{After-capture}

promise : (g : _) (c : After-capture g) → VisitsAs c.self.inside.core c.capture.new.self c.capture.result
promise g c = let e = c.capture.ensures in record { captured = e.captured; refused = e.refused; refusal = e.refusal }

pub invariant_of-self : goal.invariant_of-self
invariant_of-self g c = cuts_keep c.self.inside.core c.capture.new.self _ (visits _ _ _ (promise g (goal.at.invariant_of-self g c).After-capture)) c.self.invariant

pub returns : goal.returns
returns g c =
    let a = adds_none _ _ _ (λ old. VisitsAs old c.capture.new.self c.capture.result) c.self.view_is (promise g (goal.at.returns g c).After-capture) (λ old. visits old _ _) in
    record { core = a.core; images = a.images; origin = a.origin; log = a.log; calls = a.calls }
