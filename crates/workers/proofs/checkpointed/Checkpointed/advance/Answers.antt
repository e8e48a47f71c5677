use Rattle.std.proofs.Common.{◌∙◌, add-zero}
use Rattle.steps.specs.Schedules.{AdvancesAs}
use Rattle.workers.proofs.CoreGrowth.{advances}
use Rattle.workers.proofs.Growth.{adds_some, cuts_grow}
use Rattle.workers.proofs.checkpointed.Checkpointed.advance.Goals as goal
use Rattle.workers.proofs.checkpointed.Checkpointed.advance.Goals.{After-advance}

promise : (g : _) (c : After-advance g) → AdvancesAs c.self.inside.core c.advance.new.self c.advance.result
promise g c = let e = c.advance.ensures in record { advanced = e.advanced; phase = e.phase; refused = e.refused; refusal = e.refusal }

pub invariant_of-self : goal.invariant_of-self
invariant_of-self g c =
    let grown = advances _ _ _ (promise g (goal.at.invariant_of-self g c).After-advance) in
    cuts_grow c.images_stay_law.ensures c.self.inside.core c.advance.new.self 0 _ grown c.records-records.ensures.cyclic c.self.invariant

pub returns : goal.returns
returns g c =
    let a = adds_some _ _ _ 0 (λ old. AdvancesAs old c.advance.new.self c.advance.result) c.self.view_is (promise g (goal.at.returns g c).After-advance) (λ old. advances old _ _) in
    record { core = a.core; images = a.images; origin = a.origin; log = a.log; calls = a.calls ∙ add-zero _ }
