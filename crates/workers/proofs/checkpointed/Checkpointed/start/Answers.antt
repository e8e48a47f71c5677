use Rattle.std.proofs.Common.{◌∙◌, add-zero}
use Rattle.steps.specs.Schedules.{StartsAs}
use Rattle.workers.proofs.CoreGrowth.{starts}
use Rattle.workers.proofs.Growth.{adds_some, cuts_grow}
use Rattle.workers.proofs.checkpointed.Checkpointed.start.Goals as goal
use Rattle.workers.proofs.checkpointed.Checkpointed.start.Goals.{After-start}

promise : (g : _) (c : After-start g) → StartsAs c.self.inside.core c.start.new.self c.args.kind c.start.result
promise g c = let e = c.start.ensures in record { started = e.started; number = e.number; refused = e.refused; refusal = e.refusal }

pub invariant_of-self : goal.invariant_of-self
invariant_of-self g c =
    let grown = starts _ _ _ _ (promise g (goal.at.invariant_of-self g c).After-start) in
    cuts_grow c.images_stay_law.ensures c.self.inside.core c.start.new.self 0 _ grown c.records-records.ensures.cyclic c.self.invariant

pub returns : goal.returns
returns g c =
    let a = adds_some _ _ _ 0 (λ old. StartsAs old c.start.new.self c.args.kind c.start.result) c.self.view_is (promise g (goal.at.returns g c).After-start) (λ old. starts old _ _ _) in
    record { core = a.core; images = a.images; origin = a.origin; log = a.log; calls = a.calls ∙ add-zero _ }
