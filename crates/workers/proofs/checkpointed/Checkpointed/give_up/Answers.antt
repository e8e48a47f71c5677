use Rattle.steps.specs.Schedules.{GivesUpAs}
use Rattle.workers.proofs.CoreGrowth.{gives_up}
use Rattle.workers.proofs.Growth.{adds_none, cuts_keep}
use Rattle.workers.proofs.checkpointed.Checkpointed.give_up.Goals as goal
use Rattle.workers.proofs.checkpointed.Checkpointed.give_up.Goals.{After-give_up}

promise : (g : _) (c : After-give_up g) → GivesUpAs c.self.inside.core c.give_up.new.self c.args.session c.give_up.result
promise g c = let e = c.give_up.ensures in record { given_up = e.given_up; refused = e.refused; active = e.active }

pub invariant_of-self : goal.invariant_of-self
invariant_of-self g c = cuts_keep c.self.inside.core c.give_up.new.self _ (gives_up _ _ _ _ (promise g (goal.at.invariant_of-self g c).After-give_up)) c.self.invariant

pub returns : goal.returns
returns g c =
    let a = adds_none _ _ _ (λ old. GivesUpAs old c.give_up.new.self c.args.session c.give_up.result) c.self.view_is (promise g (goal.at.returns g c).After-give_up) (λ old. gives_up old _ _ _) in
    record { core = a.core; images = a.images; origin = a.origin; log = a.log; calls = a.calls }
