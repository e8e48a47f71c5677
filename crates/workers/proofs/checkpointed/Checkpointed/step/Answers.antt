use Rattle.steps.specs.Schedules.{StepsAs}
use Rattle.workers.proofs.CoreGrowth.{steps}
use Rattle.workers.proofs.Growth.{adds_none, cuts_keep}
use Rattle.workers.proofs.checkpointed.Checkpointed.step.Goals as goal
use Rattle.workers.proofs.checkpointed.Checkpointed.step.Goals.{After-step}

promise : (g : _) (c : After-step g) → StepsAs c.self.inside.core c.step.new.self c.args.session c.step.result
promise g c = let e = c.step.ensures in record { stepped = e.stepped; ready = e.ready; refused = e.refused; refusal = e.refusal }

pub invariant_of-self : goal.invariant_of-self
invariant_of-self g c = cuts_keep c.self.inside.core c.step.new.self _ (steps _ _ _ _ (promise g (goal.at.invariant_of-self g c).After-step)) c.self.invariant

pub returns : goal.returns
returns g c =
    let a = adds_none _ _ _ (λ old. StepsAs old c.step.new.self c.args.session c.step.result) c.self.view_is (promise g (goal.at.returns g c).After-step) (λ old. steps old _ _ _) in
    record { core = a.core; images = a.images; origin = a.origin; log = a.log; calls = a.calls }
