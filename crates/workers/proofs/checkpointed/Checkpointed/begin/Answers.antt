use Rattle.steps.specs.Schedules.{BeginsAs}
use Rattle.workers.proofs.CoreGrowth.{begins}
use Rattle.workers.proofs.Growth.{adds_none, cuts_keep}
use Rattle.workers.proofs.checkpointed.Checkpointed.begin.Goals as goal
use Rattle.workers.proofs.checkpointed.Checkpointed.begin.Goals.{After-begin}

promise : (g : _) (c : After-begin g) → BeginsAs c.self.inside.core c.begin.new.self c.args.session c.args.number c.args.procedure c.args.args c.begin.result
promise g c = let e = c.begin.ensures in record { begun = e.begun; refused = e.refused; refusal = e.refusal }

pub invariant_of-self : goal.invariant_of-self
invariant_of-self g c = cuts_keep c.self.inside.core c.begin.new.self _ (begins _ _ _ _ _ _ _ (promise g (goal.at.invariant_of-self g c).After-begin)) c.self.invariant

pub returns : goal.returns
returns g c =
    let a = adds_none _ _ _ (λ old. BeginsAs old c.begin.new.self c.args.session c.args.number c.args.procedure c.args.args c.begin.result)
    c.self.view_is (promise g (goal.at.returns g c).After-begin) (λ old. begins old _ _ _ _ _ _) in
    record { core = a.core; images = a.images; origin = a.origin; log = a.log; calls = a.calls }
