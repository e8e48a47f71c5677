use Rattle.steps.specs.Schedules.{FinishesAs}
use Rattle.workers.proofs.CoreGrowth.{added, counted, finishes}
use Rattle.workers.proofs.Growth.{adds_some, cuts_grow}
use Rattle.workers.proofs.checkpointed.Checkpointed.finish.Goals as goal
use Rattle.workers.proofs.checkpointed.Checkpointed.finish.Goals.{After-finish}

promise : (g : _) (c : After-finish g) → FinishesAs c.self.inside.core c.finish.new.self c.args.session c.finish.result
promise g c = let e = c.finish.ensures in record { finished = e.finished; answer = e.answer; refused = e.refused; refusal = e.refusal }

pub invariant_of-self : goal.invariant_of-self
invariant_of-self g c =
    let grown = finishes _ _ _ _ (promise g (goal.at.invariant_of-self g c).After-finish) in
    cuts_grow c.images_stay_law.ensures c.self.inside.core c.finish.new.self (added c.finish.result) _ grown c.records-records.ensures.cyclic c.self.invariant

pub returns : goal.returns
returns g c =
    let a = adds_some _ _ _ (added c.finish.result) (λ old. FinishesAs old c.finish.new.self c.args.session c.finish.result)
    c.self.view_is (promise g (goal.at.returns g c).After-finish) (λ old. finishes old _ _ _) in
    record { core = a.core; images = a.images; origin = a.origin; log = a.log; calls = counted _ _ c.finish.result a.calls }
